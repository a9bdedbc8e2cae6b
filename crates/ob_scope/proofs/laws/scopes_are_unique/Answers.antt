use Rattle.ob_scope.proofs.OneScopes.{scopes_are_unique}
use Rattle.ob_scope.proofs.laws.scopes_are_unique.Goals as goal

pub returns : goal.returns
returns c = scopes_are_unique
