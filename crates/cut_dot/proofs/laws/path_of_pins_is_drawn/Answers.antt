use Rattle.cut_dot.proofs.PathSteps.{pins_kept}
use Rattle.cut_dot.proofs.laws.path_of_pins_is_drawn.Goals as goal

pub returns : goal.returns
returns c = pins_kept
