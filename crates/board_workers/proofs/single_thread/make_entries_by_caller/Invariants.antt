use Rattle.board_workers.proofs.single_thread.make_entries_by_caller.Given as goal

abbrev pub ghosts-make_entries_by_one_thread : goal.ghosts-make_entries_by_one_thread
ghosts-make_entries_by_one_thread g a = record { graph = a.graph.now }
