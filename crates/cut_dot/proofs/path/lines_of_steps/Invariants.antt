use Rattle.std.proofs.Common.{◌≡◌, map, take}
use Rattle.cut_dot.specs.Steps.{line_of_step}
use Rattle.cut_dot.proofs.path.lines_of_steps.Given as goal

abbrev pub invariant-loop-step : goal.invariant-loop-step
invariant-loop-step l = l.lines.items ≡ map line_of_step (take l.step-index l.steps)
