use Rattle.cut_dot.proofs.Escapes.{names_plain}
use Rattle.cut_dot.proofs.laws.names_need_no_escape.Goals as goal

pub returns : goal.returns
returns c = names_plain
