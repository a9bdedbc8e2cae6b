use Rattle.ob_scope.proofs.Weighing.{across_within, weights_are_bounded}
use Rattle.ob_scope.proofs.laws.weights_are_bounded.Goals as goal

pub returns-clause-all : goal.returns-clause-all
returns-clause-all c = weights_are_bounded

pub returns-clause-one : goal.returns-clause-one
returns-clause-one c = across_within
