use Rattle.std.proofs.lemmas.List.{nil_from_length}
use Rattle.cut_net.proofs.Tables.{tables_none}
use Rattle.cut_net.proofs.builder.NetBuilder.new.Goals as goal

pub returns : goal.returns
returns c = rw (nil_from_length _ c.with_hasher.ensures.len, nil_from_length _ c.with_hasher-2.ensures.len) tables_none
