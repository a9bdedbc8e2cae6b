use Rattle.std.proofs.Common.{◌≤◌, length, subst}
use Rattle.cut_preflow.specs.Bound.{max_steps}
use Rattle.cut_preflow.specs.Trace.{flow_network}
use Rattle.cut_preflow.proofs.Bound.{legal_le}
use Rattle.cut_preflow.proofs.preflow_core.PreflowCore.history.Goals as goal

pub returns-clause-few : goal.returns-clause-few
returns-clause-few c =
    let few = legal_le (flow_network c.self.inside.ends c.self.inside.graph.imports) c.self.inside.history.items c.self.invariant.0.network c.self.invariant.0.legal in
    subst (λ p. length p.history ≤ max_steps p.net) c.self.view_is few
