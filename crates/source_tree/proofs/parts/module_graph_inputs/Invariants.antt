use Rattle.std.proofs.Common.{◌≡◌, List, take}
use Rattle.ob_imports.specs.Files.{files_of as parsed_files}
use Rattle.source_tree.specs.Trees.{files_of, ModuleFile}
use Rattle.source_tree.specs.Parts.{AreAllParts}
use Rattle.source_tree.proofs.parts.module_graph_inputs.Given as goal

abbrev pub invariant-loop-i : goal.invariant-loop-i
invariant-loop-i l = (files : List ModuleFile) → AreAllParts l.sources files l.modules → parsed_files l.all.items ≡ take l.i (files_of files)
