use Rattle.ob_scan.proofs.Places.{spelled_in_text}
use Rattle.ob_scan.proofs.laws.tokens_in_text.Goals as goal

pub returns : goal.returns
returns c = spelled_in_text
