use Rattle.scopes.specs.QualifiedUses.{Crosses}
use Rattle.scopes.proofs.Counting.{counts-once}
use Rattle.ob_scope.proofs.laws.weight_is_unique.Goals as goal

pub returns : goal.returns
returns c = λ name rows imported n m. counts-once (Crosses name rows imported) rows.uses n m
