-- Flags of the modules that each module reaches.
use Rattle.std.specs.Prelude.{◌≡◌, ℕ, ◌⊎◌, List, slice_index_or, Bool, true, false, Contains}
use Rattle.work_board.specs.Graphs.{list_at}

abbrev pub marked : List Bool → ℕ → Bool
marked flags v = slice_index_or flags v false

-- v is a module of the list `row`, or a module of the list reaches it
abbrev pub IsReachedBy : List (List Bool) → List ℕ → ℕ → Type 0
IsReachedBy reached row v = (w : ℕ) × Contains row w × ((w ≡ v) ⊎ (marked (list_at reached w) v ≡ true))
