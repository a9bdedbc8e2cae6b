use Rattle.cut_part.proofs.Parts.{none_is_greatest}
use Rattle.cut_part.proofs.laws.zero_flow_is_maximum_without_path.Goals as goal

pub returns : goal.returns
returns c = none_is_greatest
