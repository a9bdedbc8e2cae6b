use Rattle.cut_preflow.specs.Flows.{network_between}
use Rattle.cut_preflow.proofs.Networks.{between_is}
use Rattle.cut_preflow.proofs.Opening.{runs_keep}
use Rattle.cut_preflow.proofs.laws.every_run_is_valid.Goals as goal

pub returns : goal.returns
returns c = λ net a b events is ends. runs_keep (network_between net a b) events (between_is net a b is ends)
