use Rattle.ob_tests.proofs.boards.describe_board.Given as goal

abbrev pub ghosts-describe_run : goal.ghosts-describe_run
ghosts-describe_run a = record { graph = a.graph.now }
