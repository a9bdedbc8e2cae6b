use Rattle.std.proofs.Common.{◌≡◌, ◌<◌, ℕ, length}
use Rattle.std.specs.Prelude.{slice_index}
use Rattle.work_board.specs.Graphs.{list_at}
use Rattle.work_board.proofs.board.import_counts.Given as goal

abbrev pub invariant-loop-module : goal.invariant-loop-module
invariant-loop-module l = record {
  size : length l.counts.items ≡ l.module;
  counts : (m : ℕ) → m < l.module → slice_index l.counts.items m ≡ length (list_at l.graph.imports m);
}
