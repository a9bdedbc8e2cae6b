use Rattle.std.proofs.Common.{◌≡◌, false}
use Rattle.work_board.specs.Cores.{missing, IsIdle}
use Rattle.board_workers.proofs.single_thread.deliver_missing.Given as goal

abbrev pub invariant-steps : goal.invariant-steps
invariant-steps g l = record {
  going : l.board.abandoned ≡ false;
  idle : IsIdle l.board;
}

abbrev pub decreases-steps : goal.decreases-steps
decreases-steps g l = missing l.board
