use Rattle.board_workers.proofs.workers.make_entries.Given as goal

abbrev pub ghosts-make_entries_by_workers : goal.ghosts-make_entries_by_workers
ghosts-make_entries_by_workers g a = record { graph = a.graph.now }
