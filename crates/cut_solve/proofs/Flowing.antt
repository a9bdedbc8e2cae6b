-- The flow of arcs as a flow over imports.
use Rattle.std.proofs.Common.{◌≡◌, ℕ, ◌≤◌, ◌<◌, Bool, true, false, cond, eqb, List, [], ◌∷◌, length, get_or, refl, sym, ap, ◌∙◌, subst, arith, Some, None, sum_by}
use Rattle.std.specs.Prelude.{All, Contains, filter, find, map, nat_lt}
use Rattle.std.proofs.lemmas.Bool.{ltb-false}
use Rattle.std.proofs.lemmas.List.{length-map, get_or-map, get_or_default}
use Rattle.std.proofs.lemmas.List.Elements.{Contains-get_or}
use Rattle.std.proofs.lemmas.List.Sums.{sum_by-cons}
use Rattle.cut_net.specs.Network.{missing_item}
use Rattle.cut_net.specs.declared.priced.Priced.{Priced}
use Rattle.cut_net.specs.Network.{Network}
use Rattle.cut_net.specs.Cuts.{have_equal_ends, IsSetOf, IsClosed, IsFlow, Reached}
use Rattle.cut_net.specs.Cuts as cuts
use Rattle.cut_net.specs.Lines.{comes_before, IsAscending, flow_by, amount_in}
use Rattle.cut_net.proofs.ListSums.{sum_by-same}
use Rattle.residual_graph.specs.declared.arc.Arc.{Arc}
use Rattle.residual_graph.specs.Flows.{without_flow, entering, leaving, DifferInFlowOnly, IsBalanced}
use Rattle.residual_graph.specs.Graphs.{no_arc, room, head, tail, is_flagged, AreClosed, AreReached}
use Rattle.residual_graph.proofs.Walking.{along}
use Rattle.cut_solve.specs.Lines.{arc_without_flow, has_flow, import_of_arc, flow_line}
use Rattle.cut_solve.proofs.Listing.{found}

-- the imports of arcs, and a network of them, with these pins
abbrev pub imports_of : List Arc → List Priced
imports_of arcs = map import_of_arc arcs

abbrev pub net_of : List (List ℕ) → List Priced → List Arc → Network
net_of names pins arcs = record { names = names; imports = imports_of arcs; pins = pins }

imports_emptied : (arcs : List Arc) → imports_of (map without_flow arcs) ≡ imports_of arcs
imports_emptied [] = refl
imports_emptied (r ∷ more) = ap (λ v. import_of_arc r ∷ v) (imports_emptied more)

imports_empty : (imports : List Priced) → imports_of (map arc_without_flow imports) ≡ imports
imports_empty [] = refl
imports_empty (i ∷ more) = ap (λ v. i ∷ v) (imports_empty more)

-- a flow changes no import
pub same_imports : (imports : List Priced) (arcs : List Arc) → DifferInFlowOnly (map arc_without_flow imports) arcs → imports_of arcs ≡ imports
same_imports imports arcs same = sym (imports_emptied arcs) ∙ ap imports_of same ∙ imports_emptied (map arc_without_flow imports) ∙ imports_empty imports

pub empty_within : (imports : List Priced) → All (λ r. r.flow ≤ r.capacity) (map arc_without_flow imports)
empty_within imports k d h =
    let len = length-map imports arc_without_flow in
    rw (get_or-map arc_without_flow imports k missing_item d (omega arith)) (omega arith)

pub empty_between : (imports : List Priced) (n : ℕ) → ((i : Priced) → Contains imports i → (i.from < n) × (i.to < n)) → All (λ r. (r.from < n) × (r.to < n)) (map arc_without_flow imports)
empty_between imports n between k d h =
    let len = length-map imports arc_without_flow in
    let in_k : k < length imports = omega arith in
    rw (get_or-map arc_without_flow imports k missing_item d in_k) (between (get_or imports k missing_item) (Contains-get_or imports k missing_item in_k))

sum_none : (f : Arc → ℕ) (imports : List Priced) → ((i : Priced) → f (arc_without_flow i) ≡ 0) → sum_by f (map arc_without_flow imports) ≡ 0
sum_none f [] none = refl
sum_none f (i ∷ more) none = let rest = sum_none f more none in let here = none i in omega (arith, sum_by-cons f (arc_without_flow i) (map arc_without_flow more))

cond_none : (t : Bool) → cond {A = ℕ} t 0 0 ≡ 0
cond_none true = refl
cond_none false = refl

pub empty_balanced : (imports : List Priced) (a b : ℕ) → IsBalanced (map arc_without_flow imports) a b 0
empty_balanced imports a b =
    let into : (m : ℕ) → entering (map arc_without_flow imports) m ≡ 0 = λ m. sum_none (λ r. cond (eqb r.to m) r.flow 0) imports (λ i. cond_none (eqb i.to m)) in
    let out : (m : ℕ) → leaving (map arc_without_flow imports) m ≡ 0 = λ m. sum_none (λ r. cond (eqb r.from m) r.flow 0) imports (λ i. cond_none (eqb i.from m)) in
    record {
      kept = λ m _ _. into m ∙ sym (out m);
      at_start = let i = into a in let o = out a in omega arith;
    }

-- the lines of the arcs are in order as the imports are
pub lines_ascend : (arcs : List Arc) → IsAscending (imports_of arcs) → IsAscending (map flow_line arcs)
lines_ascend arcs up i j d less in_j =
    let len = length-map arcs flow_line in
    let len2 = length-map arcs import_of_arc in
    let in_arcs : j < length arcs = omega arith in
    let i_in : i < length arcs = omega arith in
    let was = up i j (import_of_arc no_arc) less (omega arith) in
    let at_i = get_or-map import_of_arc arcs i no_arc (import_of_arc no_arc) i_in in
    let at_j = get_or-map import_of_arc arcs j no_arc (import_of_arc no_arc) in_arcs in
    let of_i = get_or-map flow_line arcs i no_arc d i_in in
    let of_j = get_or-map flow_line arcs j no_arc d in_arcs in
    let ends : comes_before (import_of_arc (get_or arcs i no_arc)) (import_of_arc (get_or arcs j no_arc)) ≡ true =
    subst (λ v. comes_before v (import_of_arc (get_or arcs j no_arc)) ≡ true) at_i (subst (λ v. comes_before (get_or (imports_of arcs) i (import_of_arc no_arc)) v ≡ true) at_j was) in
    subst (λ v. comes_before v (get_or (map flow_line arcs) j d) ≡ true) (sym of_i) (subst (λ v. comes_before (flow_line (get_or arcs i no_arc)) v ≡ true) (sym of_j) ends)

amount_cond : (l : Priced) (t : Bool) → nat_lt 0 l.amount ≡ t → amount_in (cond t (Some l) None) ≡ l.amount
amount_cond l true e = refl
amount_cond l false e = let none = ltb-false 0 l.amount e in omega arith

-- the flow of the lines
abbrev pub flow_on : List Arc → Priced → ℕ
flow_on arcs = flow_by (filter has_flow (map flow_line arcs))

-- each arc's flow is that of its line
pub flow_is : (arcs : List Arc) → IsAscending (imports_of arcs) → (k : ℕ) → k < length arcs → flow_on arcs (import_of_arc (get_or arcs k no_arc)) ≡ (get_or arcs k no_arc).flow
flow_is arcs up k h =
    let l = flow_line (get_or arcs k no_arc) in
    let len = length-map arcs flow_line in
    let in_lines : k < length (map flow_line arcs) = omega arith in
    let at_k : get_or (map flow_line arcs) k (flow_line no_arc) ≡ l = get_or-map flow_line arcs k no_arc (flow_line no_arc) h in
    let there : find (have_equal_ends l) (filter has_flow (map flow_line arcs)) ≡ cond (has_flow l) (Some l) None =
    subst (λ v. find (have_equal_ends v) (filter has_flow (map flow_line arcs)) ≡ cond (has_flow v) (Some v) None) at_k (found has_flow (map flow_line arcs) (lines_ascend arcs up) k (flow_line no_arc) in_lines) in
    ap amount_in there ∙ amount_cond l (has_flow l) refl

module _ (names : List (List ℕ)) (pins : List Priced) (arcs : List Arc) (up : IsAscending (imports_of arcs)) where
  sum_imports : (xs : List Arc) (g : Priced → ℕ) → sum_by g (imports_of xs) ≡ sum_by (λ r. g (import_of_arc r)) xs
  sum_imports [] g = refl
  sum_imports (r ∷ more) g = let rest = sum_imports more g in omega (arith, sum_by-cons g (import_of_arc r) (imports_of more), sum_by-cons (λ (s : Arc). g (import_of_arc s)) r more)

  flow_at : (r : Arc) → Contains arcs r → flow_on arcs (import_of_arc r) ≡ r.flow
  flow_at r (k, in_k, at_k) = subst (λ (v : Arc). flow_on arcs (import_of_arc v) ≡ v.flow) (get_or_default arcs k no_arc r in_k ∙ at_k) (flow_is arcs up k in_k)

  sums : (t : Arc → Bool) (u : Priced → Bool) → ((r : Arc) → u (import_of_arc r) ≡ t r) → sum_by (λ i. cond (u i) (flow_on arcs i) 0) (imports_of arcs) ≡ sum_by (λ r. cond (t r) r.flow 0) arcs
  sums t u e = sum_imports arcs (λ i. cond (u i) (flow_on arcs i) 0)
      ∙ sum_by-same _ (λ r. cond (t r) r.flow 0) arcs (λ r c. ap (λ v. cond v (flow_on arcs (import_of_arc r)) 0) (e r) ∙ ap (λ v. cond (t r) v 0) (flow_at r c))

  import_at : (i : Priced) (k : ℕ) → k < length (imports_of arcs) → get_or (imports_of arcs) k i ≡ i → import_of_arc (get_or arcs k no_arc) ≡ i
  import_at i k in_k at_k = let len = length-map arcs import_of_arc in sym (get_or-map import_of_arc arcs k no_arc i (omega arith)) ∙ at_k

  -- it is a flow
  pub is_flow : (a b value : ℕ) → All (λ r. r.flow ≤ r.capacity) arcs → IsBalanced arcs a b value → IsFlow (net_of names pins arcs) a b (flow_on arcs) value
  is_flow a b value within f =
      let into : (m : ℕ) → cuts.entering (imports_of arcs) (flow_on arcs) m ≡ entering arcs m = λ m. sums (λ r. eqb r.to m) (λ i. eqb i.to m) (λ r. refl) in
      let out : (m : ℕ) → cuts.leaving (imports_of arcs) (flow_on arcs) m ≡ leaving arcs m = λ m. sums (λ r. eqb r.from m) (λ i. eqb i.from m) (λ r. refl) in
      record {
        within = λ i (k, in_k, at_k).
            let len = length-map arcs import_of_arc in
            let in_arcs : k < length arcs = omega arith in
            subst (λ v. flow_on arcs v ≤ v.amount) (import_at i k in_k at_k) (subst (λ n. n ≤ (get_or arcs k no_arc).capacity) (sym (flow_is arcs up k in_arcs)) (within k no_arc in_arcs));
        kept = λ m not_a not_b. into m ∙ f.kept m not_a not_b ∙ sym (out m);
        at_start = let i = into a in let o = out a in let s = f.at_start in omega arith;
      }

  goes : (modules : ℕ → Bool) → IsClosed (net_of names pins arcs) (flow_on arcs) modules → (k : ℕ) (forward : Bool) → k < length arcs → 0 < room (get_or arcs k no_arc) forward →
      modules (tail arcs (record { arc = k; forward = forward })) ≡ true → modules (head arcs (record { arc = k; forward = forward })) ≡ true
  goes modules closed k true h some t =
      let e = flow_is arcs up k h in
      let len = length-map arcs import_of_arc in
      closed.forward (import_of_arc (get_or arcs k no_arc)) (k, omega arith, get_or-map import_of_arc arcs k no_arc _ h) (omega arith) t
  goes modules closed k false h some t =
      let e = flow_is arcs up k h in
      let len = length-map arcs import_of_arc in
      closed.backward (import_of_arc (get_or arcs k no_arc)) (k, omega arith, get_or-map import_of_arc arcs k no_arc _ h) (omega arith) t

  -- the nodes that augmenting paths reach are those that the flow's residual imports reach
  pub reached : (a : ℕ) (reached_flags : List Bool) → a < length names → AreReached (record { nodes = length names; arcs = arcs }) a reached_flags → AreClosed arcs reached_flags →
      IsSetOf (is_flagged reached_flags) (Reached (net_of names pins arcs) (flow_on arcs) a)
  reached a reached_flags a_in are shut m =
      let len = length-map arcs import_of_arc in (
        λ t modules start closed.
            let (in_m, (path, direction)) = (are.each m).0 t in
            along (λ v. modules v ≡ true) arcs (λ s known left. goes modules closed s.arc s.forward known left) a path m direction.is_path.leads direction.is_path.known direction.left start,
        λ r. r (is_flagged reached_flags)
            ((are.each a).1 (
              a_in,
              (
                [],
                record {
                  is_path = record { leads = refl; known = λ k d h. absurd (omega arith); once = λ i j d h in_j. absurd (omega arith) };
                  left = λ k d h. absurd (omega arith);
                },
              ),
            ))
            (record {
              forward = λ i (k, in_k, at_k).
                  let in_arcs : k < length arcs = omega arith in
                  subst (λ v. flow_on arcs v < v.amount → is_flagged reached_flags v.from ≡ true → is_flagged reached_flags v.to ≡ true) (import_at i k in_k at_k)
                  (λ less t. let e = flow_is arcs up k in_arcs in shut (record { arc = k; forward = true }) in_arcs (omega arith) t);
              backward = λ i (k, in_k, at_k).
                  let in_arcs : k < length arcs = omega arith in
                  subst (λ v. 0 < flow_on arcs v → is_flagged reached_flags v.to ≡ true → is_flagged reached_flags v.from ≡ true) (import_at i k in_k at_k)
                  (λ some t. let e = flow_is arcs up k in_arcs in shut (record { arc = k; forward = false }) in_arcs (omega arith) t);
            }),
      )
