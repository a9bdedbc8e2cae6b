use Rattle.std.proofs.Common.{None, ◌∙◌}
use Rattle.cut_net.specs.Network.{missing_item}
use Rattle.cut_net.specs.Prices.{changed_state, pin_state_of}
use Rattle.cut_net.proofs.Standings.{mapped_at, mapped_next, stood}
use Rattle.cut_net.proofs.prices.pin_states_of.Goals as goal

pub loop-number-preserved : goal.loop-number-preserved
loop-number-preserved c claim same =
    let lt = rw c.imports-imports.ensures at c.loop-number-test.true in
    let changes = mapped_at claim c.args.net.now.imports c.args.changes.now c.loop-number.number missing_item None same lt in
    c.in_ok-push.ensures.items
    ∙ mapped_next (λ i. changed_state (pin_state_of c.args.net.now i) (claim i)) c.args.net.now.imports c.loop-number.pin_states.items c.loop-number.number missing_item c.pin_state_after.result
    (c.loop-number.invariant claim same) lt
    (stood c.args.net.now claim c.imports-imports.result.now c.pins.result.now c.args.changes.now c.loop-number.number c.find_import-pin.result c.pin_state_after.result c.imports-imports.ensures c.pins.ensures c.find_import-pin.ensures changes c.pin_state_after.ensures)
