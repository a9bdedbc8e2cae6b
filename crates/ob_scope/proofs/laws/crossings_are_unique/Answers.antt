use Rattle.ob_scope.proofs.ImportUses.{crossings_once}
use Rattle.ob_scope.proofs.laws.crossings_are_unique.Goals as goal

pub returns : goal.returns
returns c = λ name rows imported cs ds. crossings_once name rows imported rows.uses cs ds
