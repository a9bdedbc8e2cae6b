use Rattle.cut_preflow.specs.Preflow.{opening, run}
use Rattle.cut_preflow.specs.Flows.{flow_on, network_between, value_of}
use Rattle.cut_preflow.proofs.Flowing.{has_flow, near}
use Rattle.cut_preflow.proofs.Networks.{between_is}
use Rattle.cut_preflow.proofs.Opening.{runs_keep}
use Rattle.cut_preflow.proofs.laws.quiet_run_with_pins.Goals as goal

pub returns-clause-flow : goal.returns-clause-flow
returns-clause-flow c = λ net a b events is ends quiet.
    let flow_net = network_between net a b in
    let of = between_is net a b is ends in
    let kept = runs_keep flow_net events of in
    let s = run flow_net (opening flow_net) events in
    c.source_side_with_pins.ensures.flow net a b (flow_on flow_net s) (value_of flow_net s) (has_flow net a b s of kept.flows kept quiet)

pub returns-clause-near : goal.returns-clause-near
returns-clause-near c = λ net a b events modules is ends pins none quiet those.
    let flow_net = network_between net a b in
    let of = between_is net a b is ends in
    let kept = runs_keep flow_net events of in
    let are = near net a b (run flow_net (opening flow_net) events) of kept.flows kept quiet modules those in
    λ m. (λ has. (c.source_side_with_pins.ensures.near net a b m pins none).1 ((are m).0 has), λ is_near. (are m).1 ((c.source_side_with_pins.ensures.near net a b m pins none).0 is_near))
