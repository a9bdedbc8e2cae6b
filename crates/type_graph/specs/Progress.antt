-- The checkpoints of a search, and the measure by which it terminates.
use Rattle.std.specs.Prelude.{◌≡◌, ℕ, ◌+◌, List, [], ◌∷◌, ◌++◌, length}
use Rattle.type_graph.specs.declared.detector.CycleDetector.{CycleDetector}

-- a record or a declaration is visited: it becomes the last checkpoint, or the checkpoints stay
pub data IsVisited {R : Type 0} (r : R) (before after : List R) : Type 0 where
  marked : after ≡ before ++ r ∷ [] → IsVisited r before after
  unmarked : after ≡ before → IsVisited r before after

-- the number of visits plus that of checkpoints, which increases with each visit
abbrev pub progress : {R : Type 0} → CycleDetector R → ℕ
progress detector = detector.visited + length detector.checkpoints.items
