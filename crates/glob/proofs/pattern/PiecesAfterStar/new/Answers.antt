-- The pieces, one by one.
use Rattle.std.proofs.Common.{◌++◌, ◌∷◌, [], eqb, rules, tests, sym, subst}
use Rattle.std.specs.List.{count_by}
use Rattle.std.proofs.lemmas.Iterator.Consumers.{YieldsList-at, YieldsList-end}
use Rattle.std.proofs.lemmas.Iterator.Splits.{YieldsList-from_slice_split}
use Rattle.std.proofs.lemmas.List.Splits.{length-slice_split}
use Rattle.glob.specs.Globs.{is_star}
use Rattle.glob.proofs.PiecesAfterStar.{IsCut, cut_empty, cut_push, cut_whole, length_zero, no_cut}
use Rattle.glob.proofs.pattern.PiecesAfterStar.new.Goals as goal

pub loop-piece-init : goal.loop-piece-init
loop-piece-init c = no_cut c.new-inner.result.items c.new-inner.ensures.items

pub loop-piece-preserved-in_ok-push : goal.loop-piece-preserved-in_ok-push
loop-piece-preserved-in_ok-push c =
    subst (λ z. IsCut (c.loop-piece.yielded ++ c.in-Some.piece ∷ []) z c.in-Some.piece.now) (sym c.in_ok-push.ensures.items) (cut_push c.loop-piece.yielded c.loop-piece.inner.items c.loop-piece.last c.in-Some.piece c.loop-piece.invariant)

pub loop-piece-preserved : goal.loop-piece-preserved
loop-piece-preserved c = cut_empty c.loop-piece.yielded c.loop-piece.inner.items c.loop-piece.last.now c.in-Some.piece (length_zero c.loop-piece.last.now (search (rules, tests))) c.loop-piece.invariant

pub returns : goal.returns
returns c =
    let done = YieldsList-end (YieldsList-at c.into_iter-piece-iterator.ensures.into_iter_gives
    (YieldsList-from_slice_split _ is_star c.args.rest.now c.split-piece-items.ensures.rest c.split-piece-items.ensures.done c.split-piece-items.ensures.closure (λ x b q k. search (rules, tests))))
    c.loop-piece.yielded _ c.loop-piece.yielded_by _ _ c.in-None.is c.next.ensures.steps in
    cut_whole c.loop-piece.yielded c.loop-piece.inner.items c.loop-piece.last.now c.args.rest.now (count_by is_star c.args.rest.now) c.loop-piece.invariant done.0 (length-slice_split is_star c.args.rest.now)
