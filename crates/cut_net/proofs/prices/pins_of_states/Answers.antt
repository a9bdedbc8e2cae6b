use Rattle.std.proofs.Common.{◌≡◌, [], get_or, ◌∙◌, ap, sym}
use Rattle.std.proofs.lemmas.List.{append-nil}
use Rattle.cut_net.specs.declared.pin_state.PinState.TheVariants.{WithWeight, WithPin}
use Rattle.cut_net.specs.Network.{missing_item}
use Rattle.cut_net.specs.Prices.{pin_of_state}
use Rattle.cut_net.proofs.Standings.{mapped_at, given_next, no_pin}
use Rattle.cut_net.proofs.prices.pins_of_states.Goals as goal
use Rattle.cut_net.proofs.prices.pins_of_states.Goals.{in-WithPin+in_ok-push, in_default}

pub loop-number-preserved : goal.loop-number-preserved
loop-number-preserved c pin_state same =
    let import = get_or c.args.imports.now c.loop-number.number missing_item in
    let is = mapped_at pin_state c.args.imports.now c.args.pin_states.now c.loop-number.number missing_item (WithWeight 0) same c.loop-number-test.true in
    let before = c.loop-number.invariant pin_state same in
    elim c.match-pin_states-number.branch [
      | in-WithPin+in_ok-push w ↦
          let one : pin_of_state import (pin_state import) ≡ pin_of_state import (WithPin w.in-WithPin.amount) = ap (pin_of_state import) (sym is ∙ w.in-WithPin.is) in
          ap (λ (v : _). v.items) w.pins-is ∙ w.in_ok-push.ensures.items ∙ given_next (λ i. pin_of_state i (pin_state i)) c.args.imports.now _ _ c.loop-number.number missing_item before c.loop-number-test.true (sym one)
      | in_default w ↦
          let none : [] ≡ pin_of_state import (pin_state import) = no_pin import (pin_state import) (λ x e. w.in_default.not-WithPin x (is ∙ e)) in
          ap (λ (v : _). v.items) w.pins-is ∙ sym (append-nil c.loop-number.pins.items) ∙ given_next (λ i. pin_of_state i (pin_state i)) c.args.imports.now c.loop-number.pins.items [] c.loop-number.number missing_item before c.loop-number-test.true none
    ]
