use Rattle.ob_emit.proofs.NamesGiven.{seen_named}
use Rattle.ob_emit.proofs.laws.scoped_names_are_identifiers.Goals as goal

pub returns-clause-there : goal.returns-clause-there
returns-clause-there c = λ bytes ts rows s scopes. seen_named bytes ts rows scopes.named
