use Rattle.ob_scan.proofs.Places.{spelled_in_text}
use Rattle.ob_grammar.proofs.OneTree.{place_in_text}
use Rattle.ob_grammar.proofs.laws.offsets_in_text.Goals as goal

pub returns : goal.returns
returns c = λ bytes ts at outcome. place_in_text bytes ts at (spelled_in_text bytes ts outcome.1)
