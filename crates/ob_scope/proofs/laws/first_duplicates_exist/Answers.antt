use Rattle.ob_scope.proofs.Twice.{none_or_first}
use Rattle.ob_scope.proofs.laws.first_duplicates_exist.Goals as goal

pub returns : goal.returns
returns c = none_or_first
