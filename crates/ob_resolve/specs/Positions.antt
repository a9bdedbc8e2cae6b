-- Lists of positions and of flags, by token number.
use Rattle.std.specs.Prelude.{◌≡◌, ℕ, List, Bool, true, Option, Some, None, slice_get, slice_set}
use Rattle.ob_targets.specs.declared.syntax_position.SyntaxPosition.{SyntaxPosition}
use Rattle.ob_targets.specs.SyntaxPosition.{first}

-- in the list `new`, each token that an entry in `rows` has gets the position from the first entry that has it. The positions of all other
-- tokens are as in the list `old`
abbrev pub ArePositionsSet : {X : Type 0} → (ℕ → X → Bool) → (ℕ → SyntaxPosition) → List X → List SyntaxPosition → List SyntaxPosition → Type 0
ArePositionsSet has at rows old new = (k : ℕ) (s : SyntaxPosition) → slice_get old k ≡ Some s → slice_get new k ≡ Some (first (has k) at rows s)

-- the list of flags with the flag of this token set; the list itself if there is no token
abbrev pub with_flag : Option ℕ → List Bool → List Bool
with_flag None positions = positions
with_flag (Some n) positions = slice_set positions n true
