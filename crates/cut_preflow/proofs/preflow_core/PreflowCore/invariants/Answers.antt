use Rattle.cut_preflow.specs.Trace.{state_of, IsSound}
use Rattle.cut_preflow.proofs.Flowing.{quiet_has_flow, quiet_is_shut_off}
use Rattle.cut_preflow.proofs.Histories.{played_keeps}
use Rattle.cut_preflow.proofs.preflow_core.PreflowCore.invariants.Goals as goal
use Rattle.cut_preflow.proofs.preflow_core.PreflowCore.invariants.Goals.{After-self}

sound : (c : After-self) → IsSound c.args.self.now.net (state_of c.args.self.now)
sound c = played_keeps c.self.inside.ends c.self.inside.graph.imports c.self.inside.graph.flow c.self.inside.labels.items c.self.inside.history.items c.args.self.now c.self.invariant.0 c.self.view_is

pub returns-clause-sound : goal.returns-clause-sound
returns-clause-sound c = sound c

pub returns-clause-flow : goal.returns-clause-flow
returns-clause-flow c = λ quiet. quiet_has_flow c.args.self.now.net (state_of c.args.self.now) (sound c).network (sound c).kept quiet

pub returns-clause-shut : goal.returns-clause-shut
returns-clause-shut c = λ quiet. quiet_is_shut_off c.args.self.now.net (state_of c.args.self.now) (sound c).network (sound c).kept quiet
