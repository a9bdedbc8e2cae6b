use Rattle.ob_targets.proofs.OneContext.{syntax_position_is_unique}
use Rattle.ob_targets.proofs.laws.syntax_position_is_unique.Goals as goal

pub returns : goal.returns
returns c = syntax_position_is_unique
