use Rattle.ob_board.specs.SourceParts.{file_models}
use Rattle.ob_board.proofs.unresolved_list.unresolved_in_tree.Given as goal

abbrev pub ghosts-list_unresolved : goal.ghosts-list_unresolved
ghosts-list_unresolved g a = record { files = file_models a.sources.now a.tree.now.modules.items }
