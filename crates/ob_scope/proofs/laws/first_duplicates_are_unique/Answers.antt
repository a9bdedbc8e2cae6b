use Rattle.scopes.proofs.Meanings.{no_first, first_once}
use Rattle.ob_scope.proofs.laws.first_duplicates_are_unique.Goals as goal

pub returns-clause-no_pair : goal.returns-clause-no_pair
returns-clause-no_pair c = no_first

pub returns-clause-one_pair : goal.returns-clause-one_pair
returns-clause-one_pair c = first_once
