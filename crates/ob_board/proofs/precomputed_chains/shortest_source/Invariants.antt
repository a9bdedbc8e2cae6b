use Rattle.std.proofs.Common.{◌<◌, length}
use Rattle.ob_board.proofs.precomputed_chains.shortest_source.Given as goal

abbrev pub invariant-loop-at : goal.invariant-loop-at
invariant-loop-at l = l.place < length l.sources
