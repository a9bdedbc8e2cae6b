-- The steps of a path, and the imports that are steps.
use Rattle.std.proofs.Common.{◌≡◌, ℕ, zero, suc, ◌+◌, ◌<◌, ◌≤◌, ◌++◌, Bool, true, false, List, [], ◌∷◌, add-one, append_assoc, append-nil, length, get_or, drop, map, refl, sym, ap, ◌∙◌, arith, inl, inr}
use Rattle.std.specs.Prelude.{Contains, ◌↔◌}
use Rattle.std.specs.List.{list_any}
use Rattle.std.proofs.lemmas.Bool.{and_from, cases_Bool, eq-eqb}
use Rattle.std.proofs.lemmas.List.{get_or-map, length-map}
use Rattle.digraph.specs.declared.edge.Edge.{Edge}
use Rattle.digraph.specs.Edges as edges
use Rattle.digraph.proofs.Members.{in_filter, first_member, first_or_later, later_member, no_member}
use Rattle.cut_net.specs.declared.priced.Priced.{Priced}
use Rattle.cut_net.specs.Cuts.{IsChain}
use Rattle.cut_net.specs.Lines.{removed_by, IsAscending}
use Rattle.cut_net.specs.Network.{Network}
use Rattle.cut_net.specs.Pins.{ByPin, IsPinChain}
use Rattle.cut_dot.specs.Pictures.{has_ends, is_step, path_imports, steps}
use Rattle.cut_dot.specs.Steps.{line_of_step}

abbrev pub edge : ℕ → ℕ → Edge
edge m n = record { from = m; to = n }

-- the step from the module at an index to the next
residual_arc_at : (path : List ℕ) (k : ℕ) → k + 1 < length path → steps (drop k path) ≡ edge (get_or path k 0) (get_or path (suc k) 0) ∷ steps (drop (suc k) path)
residual_arc_at [] k l = absurd (omega arith)
residual_arc_at (m ∷ []) k l = absurd (omega arith)
residual_arc_at (m ∷ n ∷ more) zero l = refl
residual_arc_at (m ∷ n ∷ more) (suc k) l = residual_arc_at (n ∷ more) k (omega arith)

-- the last module has none
no_step : (path : List ℕ) (k : ℕ) → length path ≤ k + 1 → steps (drop k path) ≡ []
no_step [] zero l = refl
no_step [] (suc k) l = refl
no_step (m ∷ []) zero l = refl
no_step (m ∷ []) (suc k) l = no_step [] k (omega arith)
no_step (m ∷ n ∷ more) zero l = absurd (omega arith)
no_step (m ∷ n ∷ more) (suc k) l = no_step (n ∷ more) k (omega arith)

-- with one step more
pub one_step_more : (path : List ℕ) (found new : List Edge) (j : ℕ) → j + 1 < length path → new ≡ found ++ edge (get_or path j 0) (get_or path (j + 1) 0) ∷ [] → found ++ steps (drop j path) ≡ steps path
    → new ++ steps (drop (j + 1) path) ≡ steps path
one_step_more path found new j lt is so_far =
    let step = edge (get_or path j 0) (get_or path (j + 1) 0) in
    let here : steps (drop j path) ≡ step ∷ steps (drop (j + 1) path) = rw add-one (residual_arc_at path j lt) in
    ap (λ (v : List Edge). v ++ steps (drop (j + 1) path)) is ∙ append_assoc found (step ∷ []) (steps (drop (j + 1) path)) ∙ ap (λ (v : List Edge). found ++ v) (sym here) ∙ so_far

-- all steps
pub all_steps : (path : List ℕ) (found : List Edge) (j : ℕ) → length path ≤ j + 1 → found ++ steps (drop j path) ≡ steps path → found ≡ steps path
all_steps path found j past so_far = sym (append-nil found) ∙ ap (λ (v : List Edge). found ++ v) (sym (no_step path j past)) ∙ so_far

-- ---- lines of steps

-- an import has a line where a step has its ends
line_found : (found : List Edge) (i : Priced) → removed_by (map line_of_step found) i ≡ list_any (has_ends i) found
line_found [] i = refl
line_found (p ∷ found) i = elim (cases_Bool (has_ends i p)) [
  | inl t ↦ rw t refl
  | inr f ↦ rw f (line_found found i)
]

-- one of these edges has the import's ends
any_member : (i : Priced) (ps : List Edge) → list_any (has_ends i) ps ≡ true → (p : Edge) × Contains ps p × (has_ends i p ≡ true)
any_member i [] e = absurd cc
any_member i (p ∷ ps) e = elim (cases_Bool (has_ends i p)) [
  | inl t ↦ (p, first_member p ps p refl, t)
  | inr f ↦ let rest = any_member i ps (rw f at e) in (rest.0, later_member p ps rest.0 rest.1, rest.2)
]

pub member_any : (i : Priced) (ps : List Edge) (p : Edge) → Contains ps p → has_ends i p ≡ true → list_any (has_ends i) ps ≡ true
member_any i [] p has t = no_member p has
member_any i (q ∷ ps) p has t = elim (cases_Bool (has_ends i q)) [
  | inl here ↦ rw here refl
  | inr not_here ↦ rw not_here (elim (first_or_later q ps p has) [
    | inl e ↦ let other = ap (has_ends i) e ∙ t in absurd cc
    | inr later ↦ member_any i ps p later t
  ])
]

both_true : (a b : Bool) → (a ≡ true → b ≡ true) → (b ≡ true → a ≡ true) → a ≡ b
both_true true b to from = sym (to refl)
both_true false true to from = from refl
both_true false false to from = refl

-- edges that are the steps find the same imports
pub lines_are_steps : (path : List ℕ) (found : List Edge) → ((p : Edge) → Contains found p ↔ Contains (steps path) p) → (i : Priced) → removed_by (map line_of_step found) i ≡ is_step path i
lines_are_steps path found same i =
    line_found found i
    ∙ both_true (list_any (has_ends i) found) (list_any (has_ends i) (steps path))
    (λ t. let one = any_member i found t in member_any i (steps path) one.0 ((same one.0).0 one.1) one.2)
    (λ t. let one = any_member i (steps path) t in member_any i found one.0 ((same one.0).1 one.1) one.2)

-- lines of edges in order are in order
pub lines_ascend : (found : List Edge) → edges.IsAscending found → IsAscending (map line_of_step found)
lines_ascend found up j k d lt within =
    let none : Edge = record { from = 0; to = 0 } in
    let long : length (map line_of_step found) ≡ length found = length-map found line_of_step in
    rw (get_or-map line_of_step found j none d (omega arith), get_or-map line_of_step found k none d (omega arith)) (up j k none lt (omega arith))

-- ---- a path of pins

module _ (net : Network) (path : List ℕ) where
  -- the same network with the imports of the path alone
  abbrev pub along : Network
  along = record net { imports = path_imports net path }

  -- each step is by an import of the path
  kept : (m b : ℕ) (more : List ℕ) → ((p : Edge) → Contains (steps (m ∷ more)) p → Contains (steps path) p) → IsChain net.imports (ByPin net) m more b → IsChain along.imports (ByPin along) m more b
  kept m b [] among chain = chain
  kept m b (n ∷ more) among chain =
      let (i, within, from, to, pinned) = chain.0 in
      let step : Contains (steps path) (edge m n) = among (edge m n) (first_member (edge m n) (steps (n ∷ more)) (edge m n) refl) in
      let ends : has_ends i (edge m n) ≡ true = and_from _ _ (eq-eqb i.from m from) (eq-eqb i.to n to) in (
        (i, in_filter (is_step path) net.imports i (member_any i (steps path) (edge m n) step ends) within, from, to, pinned),
        kept n b more (λ p later. among p (later_member (edge m n) (steps (n ∷ more)) p later)) chain.1,
      )

pub pins_kept : (net : Network) (a b : ℕ) (path : List ℕ) → IsPinChain net a b path → IsPinChain (along net path) a b path
pins_kept net a b [] none = absurd none
pins_kept net a b (m ∷ more) (start, chain) = (start, kept net (m ∷ more) m b more (λ p h. h) chain)
