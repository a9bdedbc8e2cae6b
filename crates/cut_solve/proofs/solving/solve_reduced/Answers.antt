use Rattle.std.proofs.Common.{ℕ, subst, sym}
use Rattle.cut_net.specs.WellFormed.{AreBetween}
use Rattle.cut_solve.specs.Starts.{HasReducedWeights}
use Rattle.cut_solve.proofs.Started.{below_between, lowered_below, start_below}
use Rattle.cut_solve.proofs.solving.solve_reduced.Goals as goal

pub reduce_to_initial_flow-requires-clause-between : goal.reduce_to_initial_flow-requires-clause-between
reduce_to_initial_flow-requires-clause-between g c =
    let net = c.args.net.now in
    let s = c.in_ok-start.start in
    subst (AreBetween s.imports.items) (sym c.nodes.ensures)
    (below_between net c.args.ends.0 c.args.ends.1 c.invariants.ensures.network s.imports.items s.source s.sink (start_below net c.args.ends.0 c.args.ends.1 s.imports.items s.source s.sink c.in_ok-start.ensures))

pub solve_with_new_ledger-requires-clause-start : goal.solve_with_new_ledger-requires-clause-start
solve_with_new_ledger-requires-clause-start g c κs within =
    let net = c.args.net.now in
    let a = c.args.ends.0 in
    let b = c.args.ends.1 in
    let s = c.in_ok-start.start in
    let low = c.in_ok-lower.lower in
    let below = lowered_below net a b s.imports.items low.imports.items s.source s.sink (start_below net a b s.imports.items s.source s.sink c.in_ok-start.ensures) c.in_ok-lower.ensures.imports in
    subst (λ (m : ℕ). HasReducedWeights net a b low.imports.items m low.sink) (sym c.in_ok-lower.ensures.source)
    (subst (λ (m : ℕ). HasReducedWeights net a b low.imports.items s.source m) (sym c.in_ok-lower.ensures.sink) below)

pub solve_with_new_ledger-requires-2-clause-start : goal.solve_with_new_ledger-requires-2-clause-start
solve_with_new_ledger-requires-2-clause-start g c κs within =
    let s = c.in_ok-start.start in
    start_below c.args.net.now c.args.ends.0 c.args.ends.1 s.imports.items s.source s.sink c.in_ok-start.ensures
