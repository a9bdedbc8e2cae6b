use Rattle.std.proofs.Common.{sym, subst}
use Rattle.cut_preflow.specs.Kept.{IsFlowNetwork}
use Rattle.cut_preflow.specs.Trace.{IsWithinLimits}
use Rattle.cut_preflow.specs.Flows.{network_on}
use Rattle.cut_solve.proofs.Started.{below_is, below_limits}
use Rattle.cut_solve.proofs.solving.solve_with_ledger.Goals as goal

pub start_on-requires-clause-network : goal.start_on-requires-clause-network
start_on-requires-clause-network g c =
    let s = c.args.start in
    subst (λ n. IsFlowNetwork (network_on n s.imports.items s.source s.sink)) (sym c.nodes.ensures)
    (below_is c.args.net.now c.args.ends.0 c.args.ends.1 c.invariants.ensures.network c.requires.ends s.imports.items s.source s.sink c.requires.start)

pub start_on-requires-clause-limits : goal.start_on-requires-clause-limits
start_on-requires-clause-limits g c =
    let s = c.args.start in
    subst (λ n. IsWithinLimits (network_on n s.imports.items s.source s.sink)) (sym c.nodes.ensures)
    (below_limits c.args.net.now c.args.ends.0 c.args.ends.1 c.invariants.ensures.network c.requires.ends s.imports.items s.source s.sink c.requires.start)
