use Rattle.source_tree.proofs.TreeOffsets.{scope_in_text}
use Rattle.source_tree.proofs.front_end.locate_scope_fault.Goals as goal

pub position-at-requires : goal.position-at-requires
position-at-requires c = rw (c.scope_offset.ensures, c.as_slice.ensures.value) (scope_in_text c.tokens_in_text.ensures _ c.args.fault c.requires)
