use Rattle.cut_preflow.specs.Flows.{network_between}
use Rattle.cut_tests.proofs.gates.describe_line_run.Given as goal

abbrev pub ghosts-describe_run-L-NetworkLedger : goal.ghosts-describe_run-L-NetworkLedger
ghosts-describe_run-L-NetworkLedger g a = record { net = network_between a.net.now 0 1 }

abbrev pub ghosts-describe_run-L-Ledger : goal.ghosts-describe_run-L-Ledger
ghosts-describe_run-L-Ledger g a = record { name = a.blank.name; parts = a.blank.parts }
