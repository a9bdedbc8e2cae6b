use Rattle.std.proofs.lemmas.List.{nil_from_length}
use Rattle.cut_net.proofs.Listed.{listed_none}
use Rattle.cut_net.proofs.line_list.LineList.new.Goals as goal

pub returns : goal.returns
returns c = rw (nil_from_length _ c.with_hasher.ensures.len, c.new.ensures.items) listed_none
