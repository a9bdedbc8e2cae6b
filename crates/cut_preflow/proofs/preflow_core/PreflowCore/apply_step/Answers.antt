use Rattle.std.proofs.Common.{◌∙◌, ap}
use Rattle.cut_preflow.specs.Trace.{state_of}
use Rattle.cut_preflow.proofs.Playing.{state_after}
use Rattle.cut_preflow.proofs.preflow_core.PreflowCore.apply_step.Goals as goal

pub returns-in-Push-clause-state : goal.returns-in-Push-clause-state
returns-in-Push-clause-state c = λ ok. ap state_of c.push.ensures.history ∙ state_after c.args.self.now.net c.args.self.now.history c.args.event c.push.result (c.push.ensures.outcome ok)

pub returns-in-Relabel-clause-state : goal.returns-in-Relabel-clause-state
returns-in-Relabel-clause-state c = λ ok. ap state_of c.relabel.ensures.history ∙ state_after c.args.self.now.net c.args.self.now.history c.args.event c.relabel.result (c.relabel.ensures.outcome ok)
