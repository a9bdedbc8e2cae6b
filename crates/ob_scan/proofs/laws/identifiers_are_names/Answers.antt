use Rattle.ob_scan.proofs.NameTokens.{spelled_names}
use Rattle.ob_scan.proofs.laws.identifiers_are_names.Goals as goal

pub returns : goal.returns
returns c = spelled_names
