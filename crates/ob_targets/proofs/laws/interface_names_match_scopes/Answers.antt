use Rattle.ob_targets.proofs.ScopeRule.{alone, qualified}
use Rattle.ob_targets.proofs.laws.interface_names_match_scopes.Goals as goal

pub returns : goal.returns
returns c = record { alone = λ bytes ts m s u w i d is there. alone bytes ts m s u is w i there d; qualified = λ bytes ts m s u w i name is there. qualified bytes ts m s u is w i there name }
