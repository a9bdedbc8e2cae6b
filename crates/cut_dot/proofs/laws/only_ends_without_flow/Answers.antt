use Rattle.cut_dot.proofs.Alone.{alone_by_flow}
use Rattle.cut_dot.proofs.laws.only_ends_without_flow.Goals as goal

pub returns : goal.returns
returns c = alone_by_flow
