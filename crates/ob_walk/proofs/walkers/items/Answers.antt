use Rattle.std.proofs.Common.{◌≡◌, ℕ, ◌+◌, List, ap, ◌∙◌, length, min, arith}
use Rattle.ob_walk.specs.declared.item.Item.{Item}
use Rattle.ob_tree.specs.Declaring.{module_events}
use Rattle.ob_walk.specs.Items.{items_of, with_items}
use Rattle.ob_walk.proofs.Walks.{counted, filled}
use Rattle.ob_walk.proofs.walkers.items.Goals as goal

pub returns : goal.returns
returns c =
    let out = items_of (module_events c.args.«module».now) in
    let emit = λ (s : List Item × ℕ). with_items s out in
    let count : c.count.result ≡ min (0 + length out) 18446744073709551615 =
    c.count.ensures ∙ ap (λ (s : List Item × ℕ). s.1) (c.walk_module.ensures ∙ ap emit c.with_slots-counted.ensures) ∙ counted (c.new.result.items, 0) out (omega arith) in
    let slots : length c.in_ok-vec.field-0.items ≡ length out = omega (arith, count, c.in_ok-vec.field-0.ok, c.in_ok-vec.field-0.small, c.in_ok-vec.ensures.len) in
    c.slots.ensures ∙ ap (λ (s : List Item × ℕ). s.0) (c.walk_module-2.ensures ∙ ap emit c.with_slots-filled.ensures) ∙ filled c.in_ok-vec.field-0.items out slots (omega arith)
