use Rattle.oscip_run.proofs.Sayable.{AtMost}
use Rattle.oscip_run.proofs.engine.largest_amount.Given as goal

abbrev pub invariant-loop-line : goal.invariant-loop-line
invariant-loop-line l = AtMost l.most l.lines l.line-index
