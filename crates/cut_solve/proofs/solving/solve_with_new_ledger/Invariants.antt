use Rattle.std.proofs.Common.{length}
use Rattle.cut_preflow.specs.Flows.{network_on}
use Rattle.cut_solve.proofs.solving.solve_with_new_ledger.Given as goal

abbrev pub ghosts-solve_with_ledger-L-NetworkLedger : goal.ghosts-solve_with_ledger-L-NetworkLedger
ghosts-solve_with_ledger-L-NetworkLedger g a = record { net = network_on (length a.net.now.names) a.start.imports.items a.start.source a.start.sink }

abbrev pub ghosts-solve_with_ledger-L-Ledger : goal.ghosts-solve_with_ledger-L-Ledger
ghosts-solve_with_ledger-L-Ledger g a = record { name = a.blank.name; parts = a.blank.parts }
