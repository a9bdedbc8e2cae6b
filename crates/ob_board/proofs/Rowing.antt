-- Unresolved identifiers, appended one after the other.
use Rattle.std.proofs.Common.{ℕ, List, [], ◌∷◌, ◌++◌}
use Rattle.ob_scan.specs.declared.token.Token.{Token}
use Rattle.ob_board.specs.Unresolved.{AreUnresolvedRows, IsUnresolvedAt, UnresolvedModel}

pub rows_more : (path bytes : List ℕ) (ts : List Token) (ks : List ℕ) (rows : List UnresolvedModel) (k : ℕ) (row : UnresolvedModel) → AreUnresolvedRows path bytes ts ks rows → IsUnresolvedAt path bytes ts k row
    → AreUnresolvedRows path bytes ts (ks ++ k ∷ []) (rows ++ row ∷ [])
rows_more path bytes ts [] [] k row output_is is = (is, tt)
rows_more path bytes ts [] (r ∷ rows) k row output_is is = absurd output_is
rows_more path bytes ts (j ∷ ks) [] k row output_is is = absurd output_is
rows_more path bytes ts (j ∷ ks) (r ∷ rows) k row output_is is = (output_is.0, rows_more path bytes ts ks rows k row output_is.1 is)
