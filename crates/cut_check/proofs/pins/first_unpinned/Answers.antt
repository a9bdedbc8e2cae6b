use Rattle.std.proofs.Common.{◌-◌, get_or, refl, sym, ◌∙◌, arith}
use Rattle.cut_net.specs.declared.priced.Priced.{Priced}
use Rattle.cut_check.proofs.PinChains.{pinned_next}
use Rattle.cut_check.proofs.pins.first_unpinned.Goals as goal

pub loop-k-preserved : goal.loop-k-preserved
loop-k-preserved c =
    let chain = c.args.chain.now in
    let pair : Priced = record { from = get_or chain (c.loop-k.k - 1) 0; to = get_or chain c.loop-k.k 0; amount = 0 } in
    record {
      from_one = omega arith;
      pinned = pinned_next c.args.net.now c.invariants.ensures.pins chain c.loop-k.k pair c.loop-k.invariant.from_one refl refl (sym c.is_pinned.ensures ∙ c.if-not-is_pinned.false) c.loop-k.invariant.pinned;
    }
