-- The pieces, one by one.
use Rattle.std.proofs.Common.{subst, rules}
use Rattle.std.proofs.lemmas.Bool.Decides.{Decides-eqb}
use Rattle.std.proofs.lemmas.Slice.Eq.{ends_is}
use Rattle.glob.specs.Globs.{EndsWithPieces}
use Rattle.glob.proofs.PiecesAfterStar.{at_end, longer, missing, next_piece, no, opened}
use Rattle.glob.proofs.pattern.PiecesAfterStar.matches.Goals as goal

pub returns-in_default : goal.returns-in_default
returns-in_default c =
    no (λ f. missing c.loop-piece.rest.now _ c.args.self.now.last.now _ c.in_default.ensures
    (subst (λ z. EndsWithPieces z c.loop-piece.rest.now) (opened c.deref-piece-items.result.now c.loop-piece.piece-index _ c.args.self.now.last.now (search rules)) (c.loop-piece.invariant.0 f)))

pub loop-piece-preserved : goal.loop-piece-preserved
loop-piece-preserved c =
    next_piece _ c.deref-piece-items.result.now c.loop-piece.piece-index _ c.args.self.now.last.now c.loop-piece.rest.now c.split_at.result.1.now c.split_at-in-loop-piece.result.1.now c.in-Some.at (search rules)
    c.loop-piece.invariant c.in-Some.ensures.0 c.in-Some.ensures.1 c.split_at.ensures.back c.split_at-in-loop-piece.ensures.back

pub returns : goal.returns
returns c =
    let ends = ends_is Decides-eqb c.loop-piece.rest.now c.args.self.now.last.now c.ends_with.result c.ends_with.ensures.value in
    at_end _ c.deref-piece-items.result.now c.loop-piece.piece-index c.args.self.now.last.now c.loop-piece.rest.now c.ends_with.result _ (search rules) c.loop-piece.invariant ends.0 ends.1
