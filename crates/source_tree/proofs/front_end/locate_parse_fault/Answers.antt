use Rattle.source_tree.proofs.TreeOffsets.{parse_in_text}
use Rattle.source_tree.proofs.front_end.locate_parse_fault.Goals as goal

pub position-at-requires : goal.position-at-requires
position-at-requires c = rw (c.parse_offset.ensures, c.as_slice.ensures.value) (parse_in_text c.tokens_in_text.ensures _ c.args.fault c.requires)
