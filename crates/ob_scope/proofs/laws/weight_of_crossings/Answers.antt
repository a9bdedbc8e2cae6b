use Rattle.ob_scope.proofs.ImportUses.{crossings_weigh}
use Rattle.ob_scope.proofs.laws.weight_of_crossings.Goals as goal

pub returns : goal.returns
returns c = crossings_weigh
