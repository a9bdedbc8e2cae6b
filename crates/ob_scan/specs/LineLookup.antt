-- The line of an offset, by the starts of the lines.
use Rattle.std.specs.Prelude.{ℕ, ◌+◌, ◌≤◌, ◌<◌, List, length, slice_index}

-- the offset is in this line, by the starts of all lines
pub record IsInLine (starts : List ℕ) (line offset : ℕ) : Type 0 where
  pub within : line < length starts
  pub begun : slice_index starts line ≤ offset
  pub ends : line + 1 < length starts → offset < slice_index starts (line + 1)
