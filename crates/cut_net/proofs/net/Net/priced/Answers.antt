use Rattle.std.proofs.Common.{◌≡◌, ◌∙◌, map, refl, subst}
use Rattle.cut_net.specs.Prices.{priced_by, change_of, pin_state_by}
use Rattle.cut_net.specs.WellFormed.{IsNetwork}
use Rattle.cut_net.proofs.Moved.{light, over}
use Rattle.cut_net.proofs.net.Net.priced.Goals as goal

pub returns-then-not-are_weights_in_limit : goal.returns-then-not-are_weights_in_limit
returns-then-not-are_weights_in_limit c =
    let net = c.args.self.now in
    let (lines, spelled, changes) = c.in_ok-changes.ensures.changes in
    let stand : c.deref-2.result.now ≡ map (pin_state_by net lines) net.imports =
    c.deref-2.ensures.value ∙ c.in_ok-pin_states.ensures (change_of net lines) (c.deref.ensures.value ∙ changes.changes_are) in
    record {
      priced = priced_by net lines;
      is_priced = record { lines = lines; text = record { spelled = spelled; good = changes.good }; is = refl };
      over = over net (pin_state_by net lines) (subst IsNetwork c.self.view_is c.self.invariant.0) c.deref-2.result.now stand c.are_weights_in_limit.result c.are_weights_in_limit.ensures c.if-not-are_weights_in_limit.true;
    }

pub returns : goal.returns
returns c =
    let net = c.args.self.now in
    let (lines, spelled, changes) = c.in_ok-changes.ensures.changes in
    let items = c.in_ok-pin_states.ensures (change_of net lines) (c.deref.ensures.value ∙ changes.changes_are) in
    let is = c.in_ok-with_pin_states.ensures (pin_state_by net lines) (c.deref-3.ensures.value ∙ items) in (
      record { lines = lines; text = record { spelled = spelled; good = changes.good }; is = is },
      light net (pin_state_by net lines) (subst IsNetwork c.self.view_is c.self.invariant.0) c.deref-2.result.now (c.deref-2.ensures.value ∙ items) c.are_weights_in_limit.result c.are_weights_in_limit.ensures c.if-not-are_weights_in_limit.false
          c.in_ok-with_pin_states.field-0 is,
    )
