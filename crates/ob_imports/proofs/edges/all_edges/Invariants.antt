use Rattle.std.proofs.Common.{◌≡◌, take}
use Rattle.ob_imports.specs.Names.{texts}
use Rattle.ob_imports.specs.Files.{files_of}
use Rattle.ob_imports.specs.Numbering.{all_pairs}
use Rattle.ob_imports.proofs.edges.all_edges.Given as goal

abbrev pub invariant-loop-file : goal.invariant-loop-file
invariant-loop-file l = l.pairs.items ≡ all_pairs (texts l.table.keys) (files_of (take l.file-index l.parsed))
