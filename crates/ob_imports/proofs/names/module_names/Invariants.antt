use Rattle.std.proofs.Common.{◌≡◌, take}
use Rattle.ob_imports.specs.Names.{texts}
use Rattle.ob_imports.specs.Files.{files_of, names_of}
use Rattle.ob_imports.proofs.names.module_names.Given as goal

abbrev pub invariant-loop-file : goal.invariant-loop-file
invariant-loop-file l = texts l.names.items ≡ names_of (files_of (take l.file-index l.parsed))
