use Rattle.std.proofs.Common.{◌++◌, ◌∷◌, [], drop, map}
use Rattle.std.specs.Prelude.{◌↔◌}
use Rattle.glob.specs.Globs.{pieces_of, EndsWithPieces}
use Rattle.glob.proofs.pattern.PiecesAfterStar.matches.Given as goal

-- what is left of the text has the pieces that are left
abbrev pub invariant-loop-piece : goal.invariant-loop-piece
invariant-loop-piece l = EndsWithPieces (pieces_of l.self) l.text ↔ EndsWithPieces (map (λ p. p.now) (drop l.piece-index l.piece-items) ++ l.self.last.now ∷ []) l.rest
