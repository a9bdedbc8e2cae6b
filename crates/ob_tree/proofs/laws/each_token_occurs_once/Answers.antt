use Rattle.ob_tree.proofs.TokenNumbers.{each_token_occurs_once}
use Rattle.ob_tree.proofs.laws.each_token_occurs_once.Goals as goal

pub returns : goal.returns
returns c = each_token_occurs_once
