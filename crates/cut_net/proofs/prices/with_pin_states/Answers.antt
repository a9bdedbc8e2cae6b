use Rattle.std.proofs.Common.{◌∙◌, ap, sym, subst, arith}
use Rattle.cut_net.specs.Network.{Network, texts}
use Rattle.cut_net.specs.Pins.{ArePins}
use Rattle.cut_net.specs.WellFormed.{IsNetwork}
use Rattle.cut_net.proofs.Moved.{counted, keeps_network, keeps_pins, same_net}
use Rattle.std.proofs.lemmas.Grind.{common_steps}
use Rattle.cut_net.proofs.prices.with_pin_states.Goals as goal

pub with_pins-requires-clause-network : goal.with_pins-requires-clause-network
with_pins-requires-clause-network c =
    let (pin_state, same) = c.requires.pin_state in
    let net = c.args.net.now in
    let sum = counted pin_state net.imports c.args.pin_states.now same in
    let is = same_net net pin_state c.args.pin_states.now (texts c.in_ok-names.names.items) c.imports.result.now c.imports-2.result.now c.in_ok-imports.imports.items c.in_ok-pins.pins.items same
    (c.in_ok-names.ensures ∙ ap texts c.as_slice.ensures.value ∙ ap (λ (n : Network). n.names) c.net.view_is) c.imports.ensures c.imports-2.ensures c.in_ok-imports.ensures c.in_ok-pins.ensures in
    subst IsNetwork (sym is) (keeps_network net pin_state c.invariants.ensures.network (let light = c.requires.light in omega arith))

pub with_pins-requires-clause-pins : goal.with_pins-requires-clause-pins
with_pins-requires-clause-pins c =
    let (pin_state, same) = c.requires.pin_state in
    let net = c.args.net.now in
    let sum = counted pin_state net.imports c.args.pin_states.now same in
    let is = same_net net pin_state c.args.pin_states.now (texts c.in_ok-names.names.items) c.imports.result.now c.imports-2.result.now c.in_ok-imports.imports.items c.in_ok-pins.pins.items same
    (c.in_ok-names.ensures ∙ ap texts c.as_slice.ensures.value ∙ ap (λ (n : Network). n.names) c.net.view_is) c.imports.ensures c.imports-2.ensures c.in_ok-imports.ensures c.in_ok-pins.ensures in
    subst ArePins (sym is) (keeps_pins net pin_state c.invariants.ensures.network (let light = c.requires.light in omega arith))

pub imports_with_states-requires : goal.imports_with_states-requires
imports_with_states-requires c = grind (arith, common_steps)

pub pins_of_states-requires : goal.pins_of_states-requires
pins_of_states-requires c = grind (arith, common_steps)
