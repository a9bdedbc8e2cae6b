use Rattle.std.proofs.Common.{◌≡◌, ◌++◌, ◌∷◌, [], ℕ, List, map}
use Rattle.std.specs.Prelude.{◌↔◌}
use Rattle.glob.specs.Globs.{EndsWithPieces}
use Rattle.glob.proofs.pattern.PiecesAfterStar.new.Given as goal

-- the pieces so far, followed by any others
abbrev pub invariant-loop-piece : goal.invariant-loop-piece
invariant-loop-piece l =
    (more : List (List ℕ)) (q : List ℕ) (qs : List (List ℕ)) (t : List ℕ) → map (λ p. p.now) l.yielded ++ more ≡ q ∷ qs →
    EndsWithPieces (q ∷ qs) t ↔ EndsWithPieces (map (λ p. p.now) l.inner.items ++ l.last ∷ more) t
