use Rattle.source_tree.proofs.TreeOffsets.{scan_in_text}
use Rattle.source_tree.proofs.front_end.locate_scan_fault.Goals as goal

pub position-at-requires : goal.position-at-requires
position-at-requires c = rw (c.scan_offset.ensures, c.as_slice.ensures.value) (scan_in_text _ c.args.fault c.requires)
