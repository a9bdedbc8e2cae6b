use Rattle.std.proofs.Common.{arith, length, sym, ◌≡◌, ap, ◌∙◌}
use Rattle.ob_tree.specs.Declaring.{module_events}
use Rattle.ob_tree.specs.TreeEvents.{tokens_of}
use Rattle.ob_walk.proofs.Passes.{items-length, numbers-with_items}
use Rattle.ob_walk.proofs.walkers.yield_of.Goals as goal

pub overflow_cast-position : goal.overflow_cast-position
overflow_cast-position c =
    let e : length c.deref-item-items.result.now ≡ length (tokens_of (module_events c.args.«module».now)) =
    ap (λ v. length v) (c.deref-item-items.ensures.value ∙ c.in_ok-items.ensures) ∙ items-length (module_events c.args.«module».now) in
    rw c.len-position.ensures (omega (arith, e, c.requires, c.loop-item.invariant.1, c.loop-item-test.true))

pub loop-item-preserved : goal.loop-item-preserved
loop-item-preserved c = (
  rw (c.in_ok-push.ensures.items, c.token_number.ensures, c.len-position.ensures, c.loop-item.invariant.0, c.loop-item.invariant.1)
      (sym (numbers-with_items c.deref-item-items.result.now c.loop-item.item-index _ c.loop-item-test.true)),
  rw (c.in_ok-push.ensures.len, c.loop-item.invariant.1) (omega arith),
)
