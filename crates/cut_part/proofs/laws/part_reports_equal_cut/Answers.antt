use Rattle.cut_part.proofs.PrintedBetween.{same_printed}
use Rattle.cut_part.proofs.laws.part_reports_equal_cut.Goals as goal

pub returns : goal.returns
returns c net kept a b those x printed = same_printed net kept a b those x printed
