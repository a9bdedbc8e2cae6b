-- The value of a flow is at most the sum of the capacities.
use Rattle.std.proofs.Common.{◌≡◌, ℕ, ◌+◌, ◌-◌, ◌≤◌, ◌<◌, Bool, true, false, cond, eqb, List, [], ◌∷◌, ap, subst, arith, sum_by}
use Rattle.std.specs.Prelude.{All, map}
use Rattle.std.proofs.lemmas.List.Sums.{sum_by-cons}
use Rattle.cut_net.proofs.ListSums.{sum_by-mono}
use Rattle.residual_graph.specs.declared.arc.Arc.{Arc}
use Rattle.residual_graph.specs.Flows.{without_flow, entering, leaving, DifferInFlowOnly, IsBalanced}
use Rattle.cut_plain.specs.Levels.{Raises}

abbrev pub total : List Arc → ℕ
total arcs = sum_by (λ r. r.capacity) arcs

-- what the flow sends out of a
abbrev pub value_of : List Arc → ℕ → ℕ
value_of arcs a = leaving arcs a - entering arcs a

total_emptied : (arcs : List Arc) → total (map without_flow arcs) ≡ total arcs
total_emptied [] = omega arith
total_emptied (r ∷ more) =
    let rest = total_emptied more in
    omega (arith, sum_by-cons (λ (s : Arc). s.capacity) (without_flow r) (map without_flow more), sum_by-cons (λ (s : Arc). s.capacity) r more)

pub total_same : (old new : List Arc) → DifferInFlowOnly old new → total new ≡ total old
total_same old new same =
    let a = total_emptied old in
    let b = total_emptied new in
    let e : total (map without_flow new) ≡ total (map without_flow old) = ap total same in
    omega arith

cond_within : (t : Bool) (x y : ℕ) → x ≤ y → cond t x 0 ≤ y
cond_within true x y h = h
cond_within false x y h = omega arith

pub value_within : (arcs : List Arc) (a b value : ℕ) → All (λ r. r.flow ≤ r.capacity) arcs → IsBalanced arcs a b value → value ≤ total arcs
value_within arcs a b value within f =
    let most : leaving arcs a ≤ sum_by (λ r. r.capacity) arcs = sum_by-mono (λ r. cond (eqb r.from a) r.flow 0) (λ r. r.capacity) arcs
    (λ r c. cond_within (eqb r.from a) r.flow r.capacity (subst (λ (s : Arc). s.flow ≤ s.capacity) c.2 (within c.0 r c.1))) in
    let start = f.at_start in
    omega arith

-- a flow that is raised has less left to rise by
pub measure_falls : (old new : List Arc) (a b value : ℕ) → DifferInFlowOnly old new → All (λ r. r.flow ≤ r.capacity) new → IsBalanced old a b value → Raises old new a b →
    total new - value_of new a < total old - value_of old a
measure_falls old new a b value same within f (more, some, raises) =
    let g = raises value f in
    let most = value_within new a b (value + more) within g in
    let total_is = total_same old new same in
    let was = f.at_start in
    let is = g.at_start in
    omega arith
