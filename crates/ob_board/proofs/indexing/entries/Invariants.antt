use Rattle.std.specs.String.{string_bytes}
use Rattle.ob_board.specs.SourceParts.{file_models}
use Rattle.ob_board.proofs.indexing.entries.Given as goal

abbrev pub ghosts-entries_of_parts : goal.ghosts-entries_of_parts
ghosts-entries_of_parts g a = record { files = file_models a.sources.now a.tree.now.modules.items; graph = a.tree.now.graph; package_name = string_bytes a.options.now.package }
