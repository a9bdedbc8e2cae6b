use Rattle.std.proofs.Common.{◌≡◌, map, take}
use Rattle.std.specs.Arc.{arc_value}
use Rattle.ob_board.specs.Entries.{interfaces_of}
use Rattle.ob_board.proofs.precomputed_chains.interfaces.Given as goal

abbrev pub invariant-loop-parts : goal.invariant-loop-parts
invariant-loop-parts l = map arc_value l.all.items ≡ interfaces_of (take l.parts-index l.modules)
