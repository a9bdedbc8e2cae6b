use Rattle.std.proofs.Common.{sym}
use Rattle.std.proofs.lemmas.List.{map_more}
use Rattle.cut_dot.specs.Steps.{line_of_step}
use Rattle.cut_dot.proofs.PathSteps.{edge}
use Rattle.cut_dot.proofs.path.lines_of_steps.Goals as goal

pub loop-step-preserved : goal.loop-step-preserved
loop-step-preserved c = rw (c.in_ok-push.ensures.items, c.loop-step.invariant) (sym (map_more line_of_step c.args.steps.now c.loop-step.step-index (edge 0 0) c.loop-step-test.true))
