-- The worklist of a reachability search. Its steps are numbered; each step leads from one node to another.
use Rattle.std.specs.Prelude.{◌≡◌, ◌⊎◌, ℕ, ◌+◌, ◌<◌, not, Bool, true, List, length, count_by, Contains}
use Rattle.digraph.specs.Marks.{marked}

-- each waiting node is flagged, and each step of a flagged node that doesn't wait leads to a flagged node
pub record IsSpread (leaves : ℕ → ℕ → Type 0) (to : ℕ → ℕ) (count : ℕ) (marks : List Bool) (waiting : List ℕ) : Type 0 where
  pub waits : (v : ℕ) → Contains waiting v → marked marks v ≡ true
  pub followed : (k v : ℕ) → k < count → leaves v k → marked marks v ≡ true → (marked marks (to k) ≡ true) ⊎ Contains waiting v

-- `IsSpread` while the steps of the node `one` are followed in descending order: its steps with a number below `next` are left
pub record IsSpreadBut (leaves : ℕ → ℕ → Type 0) (to : ℕ → ℕ) (count : ℕ) (marks : List Bool) (waiting : List ℕ) (one next : ℕ) : Type 0 where
  pub waits : (v : ℕ) → Contains waiting v → marked marks v ≡ true
  pub own : marked marks one ≡ true
  pub followed : (k v : ℕ) → k < count → leaves v k → marked marks v ≡ true → (marked marks (to k) ≡ true) ⊎ (Contains waiting v ⊎ ((v ≡ one) × (k < next)))

-- the number of nodes that wait or aren't flagged
abbrev pub left_over : List Bool → List ℕ → ℕ
left_over marks waiting = count_by (λ mark. not mark) marks + length waiting
