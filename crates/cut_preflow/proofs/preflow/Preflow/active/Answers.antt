use Rattle.std.proofs.Common.{◌↔◌, IsNone, subst}
use Rattle.cut_preflow.specs.Kept.{IsQuiet}
use Rattle.cut_preflow.specs.Trace.{state_of}
use Rattle.cut_preflow.proofs.preflow.Preflow.active.Goals as goal

pub returns-clause-none : goal.returns-clause-none
returns-clause-none g c = subst (λ p. IsNone c.active.result ↔ IsQuiet p.trace.net (state_of p.trace)) c.self.view_is c.active.ensures.none
