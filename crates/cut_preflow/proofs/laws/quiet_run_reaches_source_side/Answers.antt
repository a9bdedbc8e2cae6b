use Rattle.cut_preflow.specs.Preflow.{opening, run}
use Rattle.cut_preflow.specs.Flows.{network_between}
use Rattle.cut_preflow.proofs.Flowing.{near}
use Rattle.cut_preflow.proofs.Networks.{between_is}
use Rattle.cut_preflow.proofs.Opening.{runs_keep}
use Rattle.cut_preflow.proofs.laws.quiet_run_reaches_source_side.Goals as goal

pub returns : goal.returns
returns c = λ net a b events modules is ends quiet those.
    let flow_net = network_between net a b in
    let of = between_is net a b is ends in
    let kept = runs_keep flow_net events of in
    near net a b (run flow_net (opening flow_net) events) of kept.flows kept quiet modules those
