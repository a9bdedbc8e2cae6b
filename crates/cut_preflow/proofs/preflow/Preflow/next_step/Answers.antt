use Rattle.std.proofs.Common.{◌↔◌, IsNone, subst}
use Rattle.cut_preflow.specs.Kept.{IsQuiet}
use Rattle.cut_preflow.specs.Trace.{state_of}
use Rattle.cut_preflow.proofs.preflow.Preflow.next_step.Goals as goal

pub returns-clause-none : goal.returns-clause-none
returns-clause-none g c = subst (λ p. IsNone c.next_step.result ↔ IsQuiet p.trace.net (state_of p.trace)) c.self.view_is c.next_step.ensures.none
