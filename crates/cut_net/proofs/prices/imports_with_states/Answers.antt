use Rattle.std.proofs.Common.{◌∙◌, ap, get_or}
use Rattle.cut_net.specs.declared.pin_state.PinState.TheVariants.{WithWeight}
use Rattle.cut_net.specs.Network.{missing_item}
use Rattle.cut_net.specs.Prices.{import_with_state}
use Rattle.cut_net.proofs.Standings.{mapped_at, mapped_next}
use Rattle.cut_net.proofs.prices.imports_with_states.Goals as goal

pub loop-number-preserved : goal.loop-number-preserved
loop-number-preserved c pin_state same =
    c.in_ok-push.ensures.items ∙ mapped_next (λ i. import_with_state i (pin_state i)) c.args.imports.now c.loop-number.changed.items c.loop-number.number missing_item c.import_with_state.result (c.loop-number.invariant pin_state same) c.loop-number-test.true
    (c.import_with_state.ensures ∙ ap (import_with_state (get_or c.args.imports.now c.loop-number.number missing_item)) (mapped_at pin_state c.args.imports.now c.args.pin_states.now c.loop-number.number missing_item (WithWeight 0) same c.loop-number-test.true))
