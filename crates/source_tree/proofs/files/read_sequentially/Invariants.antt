use Rattle.std.proofs.Common.{List, take}
use Rattle.source_tree.specs.Files.{AreAllOf}
use Rattle.source_tree.specs.Trees.{ModuleFile}
use Rattle.source_tree.proofs.files.read_sequentially.Given as goal

abbrev pub invariant-loop-source : goal.invariant-loop-source
invariant-loop-source g l = (files : List ModuleFile) × AreAllOf g.K.FromSource.is_of (take l.source-index l.sources) files l.all.items
