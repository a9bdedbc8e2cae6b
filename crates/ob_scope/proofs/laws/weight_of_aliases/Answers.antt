use Rattle.ob_scope.proofs.Weighing.{weight_of_aliases}
use Rattle.ob_scope.proofs.laws.weight_of_aliases.Goals as goal

pub returns : goal.returns
returns c = weight_of_aliases
