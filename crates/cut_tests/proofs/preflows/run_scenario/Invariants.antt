use Rattle.cut_preflow.specs.Flows.{network_between}
use Rattle.cut_tests.proofs.preflows.run_scenario.Given as goal

abbrev pub ghosts-start_and_run-L-NetworkLedger : goal.ghosts-start_and_run-L-NetworkLedger
ghosts-start_and_run-L-NetworkLedger a = record { net = network_between a.net.now a.ends.0 a.ends.1 }

abbrev pub ghosts-start_and_run-L-Ledger : goal.ghosts-start_and_run-L-Ledger
ghosts-start_and_run-L-Ledger a = record { name = a.blank.name; parts = a.blank.parts }
