use Rattle.cut_part.proofs.Renumbering.{printed_up_is}
use Rattle.cut_part.proofs.laws.renumbered_reports_equal_cut.Goals as goal

pub returns : goal.returns
returns c = printed_up_is
