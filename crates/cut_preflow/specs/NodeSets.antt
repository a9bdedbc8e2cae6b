-- Sets of nodes: a permutation of all nodes whose prefix are the members, and its inverse.
use Rattle.std.specs.Prelude.{◌≡◌, ℕ, ◌^◌, ◌<◌, ◌≤◌, ◌==◌, if◌then◌else◌, List, length, slice_index}

-- each list is the inverse of the other
pub record AreInverse (order position : List ℕ) : Type 0 where
  pub lengths : length order ≡ length position
  pub nodes : (i : ℕ) → i < length order → slice_index order i < length position
  pub positions : (v : ℕ) → v < length position → slice_index position v < length order
  pub placed : (i : ℕ) → i < length order → slice_index position (slice_index order i) ≡ i
  pub ordered : (v : ℕ) → v < length position → slice_index order (slice_index position v) ≡ v

-- the first `size` nodes of the permutation are the members; there are fewer than 2 ^ 32 nodes
pub record IsArranged (order position : List ℕ) (size : ℕ) : Type 0 where
  pub inverse : AreInverse order position
  pub within : size ≤ length position
  pub few : length position < 2 ^ 32

-- the transposition of two indices
abbrev pub exchanged : ℕ → ℕ → ℕ → ℕ
exchanged first second position = if position == first then second else if position == second then first else position
