use Rattle.std.proofs.Common.{◌≡◌, take, vec_len}
use Rattle.ob_walk.proofs.Passes.{numbers_at}
use Rattle.ob_walk.proofs.walkers.yield_of.Given as goal

abbrev pub invariant-loop-item : goal.invariant-loop-item
invariant-loop-item l = (l.numbers.items ≡ numbers_at 0 (take l.item-index l.item-items)) × (vec_len l.numbers ≡ l.item-index)
