use Rattle.cut_preflow.proofs.Least.{raised_is}
use Rattle.cut_preflow.proofs.laws.new_label_is_smallest.Goals as goal

pub returns : goal.returns
returns c = raised_is
