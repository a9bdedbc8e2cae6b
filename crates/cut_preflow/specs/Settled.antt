-- The events that `settle` appends to the history.
use Rattle.std.specs.Prelude.{◌≡◌, ℕ, ◌≤◌, Bool, true, ◌&&◌, ◌==◌, List, [], ◌∷◌, ◌++◌, length}
use Rattle.cut_preflow.specs.declared.event.Event.{Event}

-- each event is by this worker
abbrev pub are_by : ℕ → List Event → Bool
are_by worker [] = true
are_by worker (e ∷ es) = (e.worker == worker) && are_by worker es

-- the new history is the old one with this number of events by the worker appended
pub record Appends (worker steps : ℕ) (old new : List Event) : Type 0 where
  pub added : List Event
  pub appended : new ≡ old ++ added
  pub many : length added ≡ steps
  pub by : are_by worker added ≡ true

-- the new history is the old one with at most this number of events by the worker appended
pub record AppendsUpTo (worker fuel : ℕ) (old new : List Event) : Type 0 where
  pub steps : ℕ
  pub within : steps ≤ fuel
  pub appends : Appends worker steps old new
