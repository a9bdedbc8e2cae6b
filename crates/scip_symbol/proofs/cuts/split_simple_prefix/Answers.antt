use Rattle.scip_symbol.proofs.SimpleFronts.{front_split, front_boundary}
use Rattle.scip_symbol.proofs.cuts.split_simple_prefix.Goals as goal

pub split_at-requires : goal.split_at-requires
split_at-requires c = rw (c.simple_prefix_len.ensures, c.as_bytes.ensures.value) (front_boundary c.args.text.now c.utf8.text)

pub returns : goal.returns
returns c = rw (c.split_at.ensures.front, c.split_at.ensures.back, c.simple_prefix_len.ensures, c.as_bytes.ensures.value) (front_split c.args.text.now)
