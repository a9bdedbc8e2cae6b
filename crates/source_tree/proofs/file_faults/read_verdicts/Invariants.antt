use Rattle.std.specs.Vec.Iter.{into_iter_items}
use Rattle.source_tree.proofs.FileFaults.{HaveVerdictsBefore}
use Rattle.source_tree.proofs.file_faults.read_verdicts.Given as goal

abbrev pub invariant-loop-answer : goal.invariant-loop-answer
invariant-loop-answer g l = HaveVerdictsBefore l.sources l.all.items (into_iter_items l.answer-iterator)
