use Rattle.std.proofs.Common.{◌≡◌, take}
use Rattle.ob_imports.specs.Names.{texts}
use Rattle.ob_imports.specs.Files.{files_of}
use Rattle.ob_imports.specs.Numbering.{all_lacked}
use Rattle.ob_imports.proofs.names.missing_names.Given as goal

abbrev pub invariant-loop-file : goal.invariant-loop-file
invariant-loop-file l = texts l.others.items ≡ all_lacked (texts l.table.keys) (files_of (take l.file-index l.parsed))
