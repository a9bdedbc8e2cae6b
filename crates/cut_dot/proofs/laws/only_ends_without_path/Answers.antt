use Rattle.cut_dot.proofs.Alone.{alone}
use Rattle.cut_dot.proofs.laws.only_ends_without_path.Goals as goal

pub returns : goal.returns
returns c = alone
