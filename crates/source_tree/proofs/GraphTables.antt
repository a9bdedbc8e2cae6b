-- Tables made from an import graph: sums of uses, imports by the indices of names, and names.
use Rattle.std.proofs.Common.{◌≡◌, ℕ, suc, zero, ◌+◌, ◌<◌, ◌≤◌, true, false, ltb, eqb, ◌&&◌, ◌||◌, List, [], ◌∷◌, ◌++◌, length, get_or, map, take, Option, Some, refl, sym, ap, ◌∙◌, arith, inl, inr, subst}
use Rattle.std.specs.Prelude.{All, Contains, filter}
use Rattle.std.specs.Map.{update}
use Rattle.std.specs.Option.{unwrap_or}
use Rattle.std.specs.Str.{bytes_eq}
use Rattle.std.proofs.lemmas.Bool.{cases_Bool, cases_lt, eqb-true}
use Rattle.std.proofs.lemmas.Bool.Decides.{nat_tests}
use Rattle.std.proofs.lemmas.List.{get_or-map, length-map, map-append}
use Rattle.std.proofs.lemmas.List.Elements.{All-append, All-head, All-map, All-tail, Contains-get_or}
use Rattle.std.proofs.lemmas.List.Sums.{sum_by-le-sum_by, sum_by_more, sum_by_more_le_part}
use Rattle.std.proofs.lemmas.Slice.Eq.{bytes_eq-Decides}
use Rattle.digraph.specs.declared.edge.Edge.{Edge}
use Rattle.ob_imports.specs.Graphs.{ImportGraph, imported, name_of}
use Rattle.digraph.specs.Edges.{AreBetween, IsAscending, Leads}
use Rattle.digraph.proofs.Members.{first_member, from_map, later_member, of_filter}
use Rattle.scopes.specs.ScopesInvariant.{alias_of}
use Rattle.scopes.specs.declared.module_scopes.Alias.{Alias}
use Rattle.scopes.specs.Scoped.{AliasUses, ModuleScopes}
use Rattle.scopes.specs.Weights.{uses_of_import, uses_for, uses_of_all}
use Rattle.source_tree.specs.GraphNet.{entry_to, graph_entry, scopes_at, AreLight}

-- ---- sums of uses

abbrev all_of : AliasUses → ℕ
all_of a = a.uses

uses_for_le : (name : List ℕ) (a : AliasUses) → uses_for name a ≤ a.uses
uses_for_le name a = elim (cases_Bool (bytes_eq a.imported name)) [
  | inl t ↦ rw t (omega arith)
  | inr f ↦ rw f (omega arith)
]

-- the sum for one name is at most the sum for all names
pub across_le : (list : List AliasUses) (name : List ℕ) → uses_of_import list name ≤ uses_of_all list
across_le list name = sum_by-le-sum_by (uses_for name) all_of list (uses_for_le name)

pub across_fits : (list : List AliasUses) (i : ℕ) (d : AliasUses) (name : List ℕ) → i < length list → uses_of_import (take i list) name + (get_or list i d).uses ≤ uses_of_all list
across_fits list i d name l = sum_by_more_le_part (uses_for name) all_of list i d l (uses_for_le name)

-- an alias at its index
pub alias_at : (items : List Alias) (list : List AliasUses) (i : ℕ) (x : Alias) → map alias_of items ≡ list → i < length items → x ≡ get_or items i x → (i < length list) × (get_or list i (alias_of x) ≡ alias_of x) × Contains list (alias_of x)
alias_at items list i x e l is =
    let long : length list ≡ length items = sym (ap length e) ∙ length-map items alias_of in
    let within : i < length list = omega arith in
    let at : get_or list i (alias_of x) ≡ alias_of x = ap (λ (t : List AliasUses). get_or t i (alias_of x)) (sym e) ∙ get_or-map alias_of items i x (alias_of x) l ∙ ap alias_of (sym is) in
    (within, at, (i, within, at))

-- one alias more
pub sums_next : (list : List AliasUses) (i : ℕ) (a : AliasUses) (text : List ℕ) (before n : ℕ) (old new : List ℕ → Option ℕ) → i < length list → get_or list i a ≡ a → text ≡ a.imported → n ≡ a.uses
    → before ≡ unwrap_or (old text) 0 → ((name : List ℕ) → new name ≡ update bytes_eq old text (Some (before + n)) name)
    → ((name : List ℕ) → unwrap_or (old name) 0 ≡ uses_of_import (take i list) name) → (name : List ℕ) → unwrap_or (new name) 0 ≡ uses_of_import (take (i + 1) list) name
sums_next list i a text before n old new l at is_text is_uses was put so_far name =
    let next = sum_by_more (uses_for name) list i a l in
    let has : uses_for name (get_or list i a) ≡ uses_for name a = ap (uses_for name) at in
    elim (cases_Bool (bytes_eq text name)) [
      | inl t ↦
          let same : text ≡ name = (bytes_eq-Decides text name).0 t in
          let now : unwrap_or (new name) 0 ≡ before + n = ap (λ (o : Option ℕ). unwrap_or o 0) (put name) ∙ rw t refl in
          let so : before ≡ uses_of_import (take i list) name = was ∙ so_far text ∙ ap (uses_of_import (take i list)) same in
          let test : bytes_eq a.imported name ≡ true = rw (← is_text) t in
          let adds : uses_for name a ≡ a.uses = rw test refl in
          omega arith
      | inr f ↦
          let now : unwrap_or (new name) 0 ≡ unwrap_or (old name) 0 = ap (λ (o : Option ℕ). unwrap_or o 0) (put name) ∙ rw f refl in
          let so = so_far name in
          let test : bytes_eq a.imported name ≡ false = rw (← is_text) f in
          let adds : uses_for name a ≡ 0 = rw test refl in
          omega arith
    ]

-- ---- the imports of one module

pub row_leads : (ps : List Edge) (v w : ℕ) → Contains (imported ps v) w → Leads ps v w
row_leads ps v w there =
    let (p, has, to) = from_map (λ (p : Edge). p.to) (filter (λ (p : Edge). eqb p.from v) ps) w there in
    let (old, passes) = of_filter (λ (p : Edge). eqb p.from v) ps p has in
    let from : p.from ≡ v = eqb-true p.from v passes in
    let same : p ≡ record { from = v; to = w } = λ k. record { from = from k; to = to k } in
    subst (Contains ps) same old

pub row_known : (g : ImportGraph) (row : List ℕ) (v k : ℕ) → AreBetween g.pairs (length g.names) → row ≡ imported g.pairs v → k < length row → get_or row k 0 < length g.names
row_known g row v k between e l =
    let leads : Leads g.pairs v (get_or row k 0) = row_leads g.pairs v (get_or row k 0) (subst (λ (t : List ℕ). Contains t (get_or row k 0)) e (Contains-get_or row k 0 l)) in
    (between (record { from = v; to = get_or row k 0 }) leads).1

-- ---- the imports of the modules before one

abbrev pub before_of : ℕ → List Edge → List Edge
before_of v ps = filter (λ p. ltb p.from v) ps

none_before : (v : ℕ) (ps : List Edge) → All (λ (p : Edge). v ≤ p.from) ps → before_of v ps ≡ []
none_before v [] h = refl
none_before v (p ∷ ps) h =
    let high : v ≤ p.from = All-head (λ (q : Edge). v ≤ q.from) p ps h in
    let fails : ltb p.from v ≡ false = grind (arith, nat_tests) in
    rw fails (none_before v ps (All-tail (λ (q : Edge). v ≤ q.from) p ps h))

rest_ascends : (p : Edge) (ps : List Edge) → IsAscending (p ∷ ps) → IsAscending ps
rest_ascends p ps up i j d less within = up (suc i) (suc j) d (omega arith) (omega arith)

from_le : (a b c d : ℕ) → (ltb a b || (eqb a b && ltb c d)) ≡ true → a ≤ b
from_le a b c d h = grind (arith, nat_tests)

rest_from : (p : Edge) (ps : List Edge) → IsAscending (p ∷ ps) → All (λ (q : Edge). p.from ≤ q.from) ps
rest_from p ps up k d l = from_le p.from (get_or ps k d).from p.to (get_or ps k d).to (up zero (suc k) d (omega arith) (omega arith))

-- those up to a module are those before it and its own
before_next : (v : ℕ) (ps : List Edge) → IsAscending ps → before_of (v + 1) ps ≡ before_of v ps ++ filter (λ p. eqb p.from v) ps
before_next v [] up = refl
before_next v (p ∷ ps) up =
    let rest = before_next v ps (rest_ascends p ps up) in
    elim (cases_lt p.from v) [
      | inl low ↦
          let a : ltb p.from (v + 1) ≡ true = grind (arith, nat_tests) in
          let b : ltb p.from v ≡ true = grind (arith, nat_tests) in
          let c : eqb p.from v ≡ false = grind (arith, nat_tests) in
          rw (a, b, c) (ap (λ (t : List Edge). p ∷ t) rest)
      | inr not_low ↦
          let b : ltb p.from v ≡ false = grind (arith, nat_tests) in
          elim (cases_Bool (eqb p.from v)) [
            | inl same ↦
                let at : p.from ≡ v = eqb-true p.from v same in
                let a : ltb p.from (v + 1) ≡ true = grind (arith, nat_tests) in
                let none : before_of v ps ≡ [] = none_before v ps (subst (λ (n : ℕ). All (λ (q : Edge). n ≤ q.from) ps) at (rest_from p ps up)) in
                let own : before_of (v + 1) ps ≡ filter (λ q. eqb q.from v) ps = rest ∙ ap (λ (t : List Edge). t ++ filter (λ q. eqb q.from v) ps) none in
                rw (a, b, same, none) (ap (λ (t : List Edge). p ∷ t) own)
            | inr other ↦
                let a : ltb p.from (v + 1) ≡ false = grind (arith, nat_tests) in
                rw (a, b, other) rest
          ]
    ]

pub before_none : (ps : List Edge) → before_of 0 ps ≡ []
before_none ps = none_before 0 ps (λ k d l. omega arith)

pub before_all : (n : ℕ) (ps : List Edge) → ((p : Edge) → Contains ps p → p.from < n) → before_of n ps ≡ ps
before_all n [] h = refl
before_all n (p ∷ ps) h =
    let low : p.from < n = h p (first_member p ps p refl) in
    let passes : ltb p.from n ≡ true = grind (arith, nat_tests) in
    rw passes (ap (λ (t : List Edge). p ∷ t) (before_all n ps (λ q there. h q (later_member p ps q there))))

module _ (g : ImportGraph) (ss : List ModuleScopes) where
  own_entries : (v : ℕ) (ps : List Edge) → map (graph_entry g ss) (filter (λ p. eqb p.from v) ps) ≡ map (entry_to g (scopes_at ss v) v) (imported ps v)
  own_entries v [] = refl
  own_entries v (p ∷ ps) = elim (cases_Bool (eqb p.from v)) [
    | inl t ↦
        let from : p.from ≡ v = eqb-true p.from v t in
        let first : graph_entry g ss p ≡ entry_to g (scopes_at ss v) v p.to = ap (λ (n : ℕ). entry_to g (scopes_at ss n) n p.to) from in
        rw t (ap (λ (e : (ℕ × ℕ) × ℕ). e ∷ map (graph_entry g ss) (filter (λ q. eqb q.from v) ps)) first ∙ ap (λ (es : List ((ℕ × ℕ) × ℕ)). entry_to g (scopes_at ss v) v p.to ∷ es) (own_entries v ps))
    | inr f ↦ rw f (own_entries v ps)
  ]

  -- the entries of the modules up to one
  pub modules_next : (v : ℕ) (ps : List Edge) (es : List ((ℕ × ℕ) × ℕ)) → IsAscending ps → es ≡ map (graph_entry g ss) (before_of v ps)
      → es ++ map (entry_to g (scopes_at ss v) v) (imported ps v) ≡ map (graph_entry g ss) (before_of (v + 1) ps)
  modules_next v ps es up so_far =
      ap (λ (t : List ((ℕ × ℕ) × ℕ)). t ++ map (entry_to g (scopes_at ss v) v) (imported ps v)) so_far
      ∙ ap (λ (t : List ((ℕ × ℕ) × ℕ)). map (graph_entry g ss) (before_of v ps) ++ t) (sym (own_entries v ps))
      ∙ sym (map-append (graph_entry g ss) (before_of v ps) (filter (λ p. eqb p.from v) ps))
      ∙ ap (map (graph_entry g ss)) (sym (before_next v ps up))

pub light_next : (g : ImportGraph) (s : ModuleScopes) (v : ℕ) (es : List ((ℕ × ℕ) × ℕ)) (row : List ℕ) → AreLight es → ((name : List ℕ) → uses_of_import s.aliases name ≤ 16777216) → AreLight (es ++ map (entry_to g s v) row)
light_next g s v es row light each = All-append (λ (e : (ℕ × ℕ) × ℕ). e.1 ≤ 16777216) es (map (entry_to g s v) row) light
    (All-map (λ (e : (ℕ × ℕ) × ℕ). e.1 ≤ 16777216) (entry_to g s v) row (λ k d l. each (name_of g (get_or row k d))))
