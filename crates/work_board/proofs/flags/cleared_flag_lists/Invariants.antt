use Rattle.std.proofs.Common.{◌≡◌, false}
use Rattle.std.specs.Prelude.{replicate}
use Rattle.work_board.specs.Graphs.{lists}
use Rattle.work_board.proofs.flags.cleared_flag_lists.Given as goal

abbrev pub invariant-loop : goal.invariant-loop
invariant-loop l = lists l.rows.items ≡ replicate l.counter (replicate l.count false)
