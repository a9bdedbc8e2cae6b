use Rattle.std.specs.String.{string_bytes}
use Rattle.ob_board.specs.SourceParts.{file_models}
use Rattle.oscip_tests.proofs.workers.gathered_bytes.Given as goal

abbrev pub ghosts-gather_index : goal.ghosts-gather_index
ghosts-gather_index g a = record { files = file_models a.sources.now a.tree.now.modules.items; graph = a.tree.now.graph; package_name = string_bytes a.options.now.package }
