use Rattle.std.specs.Vec.Iter.{into_iter_items}
use Rattle.source_tree.proofs.ReadFiles.{AreReadBefore}
use Rattle.source_tree.proofs.files.read_files.Given as goal

abbrev pub invariant-loop-answer : goal.invariant-loop-answer
invariant-loop-answer g l = AreReadBefore g.K.FromSource.is_of l.sources l.all.items (into_iter_items l.answer-iterator)
