use Rattle.std.proofs.Common.{take}
use Rattle.source_tree.specs.FileFaults.{AreVerdicts}
use Rattle.source_tree.proofs.file_faults.read_verdicts_sequentially.Given as goal

abbrev pub invariant-loop-source : goal.invariant-loop-source
invariant-loop-source l = AreVerdicts (take l.source-index l.sources) l.all.items
