use Rattle.std.proofs.Common.{◌≡◌, ℕ, ◌<◌, length, true}
use Rattle.std.specs.Prelude.{slice_index}
use Rattle.digraph.specs.Marks.{marked}
use Rattle.ob_imports.proofs.ready.all_done.Given as goal

abbrev pub invariant-loop-node : goal.invariant-loop-node
invariant-loop-node l = (k : ℕ) → k < l.node-index → slice_index l.row k < length l.done → marked l.done (slice_index l.row k) ≡ true
