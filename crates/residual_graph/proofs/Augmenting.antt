-- Sending an amount over one more step of a path.
use Rattle.std.proofs.Common.{◌≡◌, ◌≢◌, ℕ, ◌+◌, ◌-◌, ◌≤◌, ◌<◌, Bool, true, false, cond, eqb, List, [], length, get_or, set, drop, refl, sym, ap, ◌∙◌, subst, arith, get_or-set_other}
use Rattle.std.specs.Prelude.{All, AllPairs}
use Rattle.std.proofs.lemmas.List.{drop_all, drop_more}
use Rattle.std.proofs.lemmas.Bool.{eq-eqb, ne_eqb}
use Rattle.std.proofs.lemmas.List.Sums.{sum_by-set}
use Rattle.std.proofs.lemmas.List.Elements.{All-set}
use Rattle.residual_graph.specs.declared.arc.Arc.{Arc}
use Rattle.residual_graph.specs.declared.arc.ResidualArc.{ResidualArc}
use Rattle.residual_graph.specs.Flows.{IsBalanced, RaisesFlowValue, entering, leaving, pushed}
use Rattle.residual_graph.specs.Graphs.{no_residual_arc, HasArc, IsResidualWalk, head, no_arc, residual, room, tail}

-- a flow of this value, except that node u has this amount of excess
pub record Carries (arcs : List Arc) (a b value u amount : ℕ) : Type 0 where
  pub kept : (m : ℕ) → m ≢ a → m ≢ b → entering arcs m ≡ leaving arcs m + cond (eqb u m) amount 0
  pub start : entering arcs a + value + amount ≡ leaving arcs a + cond (eqb u a) amount 0

cond_add : (t : Bool) (x y : ℕ) → cond t (x + y) 0 ≡ cond t x 0 + cond t y 0
cond_add true x y = refl
cond_add false x y = omega arith

cond_back : (t : Bool) (x y : ℕ) → y ≤ x → cond t (x - y) 0 + cond t y 0 ≡ cond t x 0
cond_back true x y h = omega arith
cond_back false x y h = omega arith

module _ (arcs : List Arc) (k : ℕ) (in_k : k < length arcs) (amount : ℕ) where
  forth : List Arc
  forth = set arcs k (pushed (get_or arcs k no_arc) true amount)

  back : List Arc
  back = set arcs k (pushed (get_or arcs k no_arc) false amount)

  entering_forth : (m : ℕ) → entering forth m ≡ entering arcs m + cond (eqb (get_or arcs k no_arc).to m) amount 0
  unfolding forth
  entering_forth m =
      let s = sum_by-set (λ (r : Arc). cond (eqb r.to m) r.flow 0) arcs k (pushed (get_or arcs k no_arc) true amount) no_arc in_k in
      let e = cond_add (eqb (get_or arcs k no_arc).to m) (get_or arcs k no_arc).flow amount in
      omega arith

  leaving_forth : (m : ℕ) → leaving forth m ≡ leaving arcs m + cond (eqb (get_or arcs k no_arc).from m) amount 0
  unfolding forth
  leaving_forth m =
      let s = sum_by-set (λ (r : Arc). cond (eqb r.from m) r.flow 0) arcs k (pushed (get_or arcs k no_arc) true amount) no_arc in_k in
      let e = cond_add (eqb (get_or arcs k no_arc).from m) (get_or arcs k no_arc).flow amount in
      omega arith

  entering_back : amount ≤ (get_or arcs k no_arc).flow → (m : ℕ) → entering back m + cond (eqb (get_or arcs k no_arc).to m) amount 0 ≡ entering arcs m
  unfolding back
  entering_back h m =
      let s = sum_by-set (λ (r : Arc). cond (eqb r.to m) r.flow 0) arcs k (pushed (get_or arcs k no_arc) false amount) no_arc in_k in
      let e = cond_back (eqb (get_or arcs k no_arc).to m) (get_or arcs k no_arc).flow amount h in
      omega arith

  leaving_back : amount ≤ (get_or arcs k no_arc).flow → (m : ℕ) → leaving back m + cond (eqb (get_or arcs k no_arc).from m) amount 0 ≡ leaving arcs m
  unfolding back
  leaving_back h m =
      let s = sum_by-set (λ (r : Arc). cond (eqb r.from m) r.flow 0) arcs k (pushed (get_or arcs k no_arc) false amount) no_arc in_k in
      let e = cond_back (eqb (get_or arcs k no_arc).from m) (get_or arcs k no_arc).flow amount h in
      omega arith

  pub carries_forth : (a b value : ℕ) → Carries arcs a b value (get_or arcs k no_arc).from amount → amount ≤ room (get_or arcs k no_arc) true →
      Carries (set arcs k (pushed (get_or arcs k no_arc) true amount)) a b value (get_or arcs k no_arc).to amount
  unfolding forth
  carries_forth a b value c h =
      record {
        kept = λ m not_a not_b. let e = entering_forth m in let l = leaving_forth m in let was = c.kept m not_a not_b in omega arith;
        start = let e = entering_forth a in let l = leaving_forth a in let was = c.start in omega arith;
      }

  pub carries_back : (a b value : ℕ) → Carries arcs a b value (get_or arcs k no_arc).to amount → amount ≤ room (get_or arcs k no_arc) false →
      Carries (set arcs k (pushed (get_or arcs k no_arc) false amount)) a b value (get_or arcs k no_arc).from amount
  unfolding back
  carries_back a b value c h =
      record {
        kept = λ m not_a not_b. let e = entering_back h m in let l = leaving_back h m in let was = c.kept m not_a not_b in omega arith;
        start = let e = entering_back h a in let l = leaving_back h a in let was = c.start in omega arith;
      }

pub carries_start : (arcs : List Arc) (a b value amount : ℕ) → IsBalanced arcs a b value → Carries arcs a b value a amount
carries_start arcs a b value amount f = record {
  kept = λ m not_a not_b. let was = f.kept m not_a not_b in rw (ne_eqb a m (λ e. not_a (sym e))) (omega arith);
  start = let was = f.at_start in rw (eq-eqb a a refl) (omega arith);
}

pub carries_end : (arcs : List Arc) (a b value amount : ℕ) → a ≢ b → Carries arcs a b value b amount → IsBalanced arcs a b (value + amount)
carries_end arcs a b value amount apart c = record {
  kept = λ m not_a not_b. let was : entering arcs m ≡ leaving arcs m + cond (eqb b m) amount 0 = c.kept m not_a not_b in
      let none : cond (eqb b m) amount 0 ≡ 0 = ap (λ (t : Bool). cond t amount 0) (ne_eqb b m (λ e. not_b (sym e))) in omega arith;
  at_start = let was = c.start in
      let none : cond (eqb b a) amount 0 ≡ 0 = ap (λ (t : Bool). cond t amount 0) (ne_eqb b a (λ e. apart (sym e))) in omega arith;
}

carries_more : (arcs : List Arc) (k : ℕ) → k < length arcs → (amount : ℕ) (forward : Bool) (a b value u : ℕ) → Carries arcs a b value u amount →
    cond forward (get_or arcs k no_arc).from (get_or arcs k no_arc).to ≡ u → amount ≤ room (get_or arcs k no_arc) forward →
    Carries (set arcs k (pushed (get_or arcs k no_arc) forward amount)) a b value (cond forward (get_or arcs k no_arc).to (get_or arcs k no_arc).from) amount
carries_more arcs k in_k amount true a b value u c e h = carries_forth arcs k in_k amount a b value (subst (λ v. Carries arcs a b value v amount) (sym e) c) h
carries_more arcs k in_k amount false a b value u c e h = carries_back arcs k in_k amount a b value (subst (λ v. Carries arcs a b value v amount) (sym e) c) h

pub pushed_within : (arc : Arc) (forward : Bool) (amount : ℕ) → arc.flow ≤ arc.capacity → amount ≤ room arc forward → (pushed arc forward amount).flow ≤ (pushed arc forward amount).capacity
pushed_within arc true amount h r = omega arith
pushed_within arc false amount h r = omega arith

-- The first j steps are made: the arcs of the others are as they were, and the amount has come as far as they lead.
pub record Augmenting (first now : List Arc) (path : List ResidualArc) (amount j : ℕ) : Type 0 where
  pub within : All (λ r. r.flow ≤ r.capacity) now
  pub untouched : (p : ℕ) → j ≤ p → p < length path → get_or now (get_or path p no_residual_arc).arc no_arc ≡ get_or first (get_or path p no_residual_arc).arc no_arc
  pub carried : (a b value : ℕ) → a ≢ b → IsBalanced first a b value → IsResidualWalk first a path b → (u : ℕ) × Carries now a b value u amount × IsResidualWalk first u (drop j path) b

pub augmenting_start : (first : List Arc) (path : List ResidualArc) (amount : ℕ) → All (λ r. r.flow ≤ r.capacity) first → Augmenting first first path amount 0
augmenting_start first path amount within = record {
  within = within;
  untouched = λ p h i. refl;
  carried = λ a b value apart f leads. (a, carries_start first a b value amount f, leads);
}

pub augmenting_end : (first now : List Arc) (path : List ResidualArc) (amount j : ℕ) → Augmenting first now path amount j → length path ≤ j →
    (a b : ℕ) → a ≢ b → IsResidualWalk first a path b → RaisesFlowValue first now a b amount
augmenting_end first now path amount j m past a b apart leads value f =
    let (u, c, rest) = m.carried a b value apart f leads in
    let none : drop j path ≡ [] = drop_all j path past in
    let e : u ≡ b = subst (λ v. IsResidualWalk first u v b) none rest in
    carries_end now a b value amount apart (subst (λ v. Carries now a b value v amount) e c)

module _ (first now : List Arc) (path : List ResidualArc) (amount j : ℕ) (m : Augmenting first now path amount j) (in_j : j < length path)
    (known : All (HasArc now) path) (fits : All (λ s. amount ≤ residual first s) path) (once : AllPairs (λ s t. s.arc ≢ t.arc) path) where
  pub now_is : get_or now (get_or path j no_residual_arc).arc no_arc ≡ get_or first (get_or path j no_residual_arc).arc no_arc
  now_is = m.untouched j (omega arith) in_j

  pub fits_now : amount ≤ room (get_or now (get_or path j no_residual_arc).arc no_arc) (get_or path j no_residual_arc).forward
  fits_now = rw now_is (fits j no_residual_arc in_j)

  pub augmenting_more : Augmenting first (set now (get_or path j no_residual_arc).arc (pushed (get_or now (get_or path j no_residual_arc).arc no_arc) (get_or path j no_residual_arc).forward amount)) path amount (j + 1)
  augmenting_more =
      let s = get_or path j no_residual_arc in
      let k = s.arc in
      let in_k : k < length now = known j no_residual_arc in_j in
      let arc = get_or now k no_arc in
      record {
        within = All-set (λ (r : Arc). r.flow ≤ r.capacity) now k (pushed arc s.forward amount) (pushed_within arc s.forward amount (m.within k no_arc in_k) fits_now) m.within;
        untouched = λ p h i.
            let differs : (get_or path p no_residual_arc).arc ≢ k = λ e. once j p no_residual_arc (omega arith) i (sym e) in
            get_or-set_other now k (get_or path p no_residual_arc).arc (pushed arc s.forward amount) no_arc differs ∙ m.untouched p (omega arith) i;
        carried = λ a b value apart f leads.
            let (u, c, rest) = m.carried a b value apart f leads in
            let more : (tail first s ≡ u) × IsResidualWalk first (head first s) (drop (j + 1) path) b =
            subst (λ v. IsResidualWalk first u v b) (drop_more path j no_residual_arc in_j) rest in
            let tail_is : cond s.forward arc.from arc.to ≡ u = rw now_is more.0 in (
              head first s,
              subst (λ (r : Arc). Carries (set now k (pushed arc s.forward amount)) a b value (cond s.forward r.to r.from) amount) now_is
                  (carries_more now k in_k amount s.forward a b value u c tail_is fits_now),
              more.1,
            );
      }
