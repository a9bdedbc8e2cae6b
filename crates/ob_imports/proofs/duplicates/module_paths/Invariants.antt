use Rattle.std.proofs.Common.{◌≡◌, take}
use Rattle.ob_imports.specs.Names.{texts}
use Rattle.ob_imports.specs.Files.{files_of, paths_of}
use Rattle.ob_imports.proofs.duplicates.module_paths.Given as goal

abbrev pub invariant-loop-file : goal.invariant-loop-file
invariant-loop-file l = texts l.paths.items ≡ paths_of (files_of (take l.file-index l.parsed)) l.name
