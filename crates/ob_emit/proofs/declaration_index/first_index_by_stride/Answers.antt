-- One more stored index.
use Rattle.std.proofs.Common.{ℕ, ◌*◌, sym, subst, arith}
use Rattle.ob_emit.specs.Boundaries.{AreBoundaries, IsBoundary}
use Rattle.ob_emit.proofs.RowsMarked.{cuts_more}
use Rattle.ob_emit.proofs.declaration_index.first_index_by_stride.Goals as goal

pub loop-mark-preserved : goal.loop-mark-preserved
loop-mark-preserved c =
    let declared = c.args.declared.now in
    let here = subst (λ (n : ℕ). IsBoundary declared (n * 16) c.first_index_from-place.result) (sym c.loop-mark.invariant.long) c.first_index_from-place.ensures in
    record {
      boundaries = subst (AreBoundaries declared) (sym c.in_ok-push.ensures.items) (cuts_more declared c.loop-mark.firsts.items c.first_index_from-place.result c.loop-mark.invariant.boundaries here);
      long = omega (arith, c.in_ok-push.ensures.len, c.loop-mark.invariant.long);
      before = λ k d lt at. omega (arith, c.first_index_from-place.ensures.before k d lt at);
    }
