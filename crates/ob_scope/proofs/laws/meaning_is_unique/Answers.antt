use Rattle.scopes.proofs.Meanings.{means_once}
use Rattle.ob_scope.proofs.laws.meaning_is_unique.Goals as goal

pub returns : goal.returns
returns c = means_once
