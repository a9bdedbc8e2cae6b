use Rattle.std.proofs.Common.{◌≡◌, map, take}
use Rattle.std.specs.Arc.{arc_value}
use Rattle.std.specs.List.{flat_map}
use Rattle.work_board.specs.Cores.{share_at}
use Rattle.work_board.proofs.board.flagged_shared_parts.Given as goal

abbrev pub invariant-loop-number : goal.invariant-loop-number
invariant-loop-number g l = map arc_value l.parts.items ≡ flat_map (share_at g.E.WorkEntry.shared_of l.flags l.entries) (take l.number-index l.order)
