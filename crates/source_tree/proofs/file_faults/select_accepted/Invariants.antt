use Rattle.std.proofs.Common.{◌≡◌, ◌+◌, ◌++◌, drop, length}
use Rattle.std.specs.Vec.Iter.{into_iter_items}
use Rattle.source_tree.specs.FileFaults.{accepted_in}
use Rattle.source_tree.proofs.file_faults.select_accepted.Given as goal

abbrev pub invariant-loop-source : goal.invariant-loop-source
invariant-loop-source l = record {
  left : l.place + length (into_iter_items l.source-iterator) ≡ length l.verdicts;
  accepted : accepted_in l.fn.sources.items l.verdicts ≡ l.accepted.items ++ accepted_in (into_iter_items l.source-iterator) (drop l.place l.verdicts);
}
