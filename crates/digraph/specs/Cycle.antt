-- The canonical cycle. Nodes are numbers.
use Rattle.std.specs.Prelude.{◌≡◌, ℕ, ◌+◌, ◌<◌, ◌≤◌, List, ◌++◌, length, drop, slice_index, Bool, true, nat_eq}
use Rattle.std.specs.List.{IsDistinct}

-- a graph is given by its edge relation
module _ (Leads : ℕ → ℕ → Type 0) where
  -- each member of the set has an edge to a member
  abbrev pub EachLeadsToMember : (ℕ → Bool) → Type 0
  EachLeadsToMember s = (v : ℕ) → s v ≡ true → (w : ℕ) × Leads v w × (s w ≡ true)

  -- the largest set of nodes that each have an edge to a member
  pub record IsCycleCore (s : ℕ → Bool) : Type 0 where
    pub each : EachLeadsToMember s
    pub greatest : (t : ℕ → Bool) → EachLeadsToMember t → (v : ℕ) → t v ≡ true → s v ≡ true

  -- w is the smallest member that v has an edge to
  pub record IsSmallestSuccessor (s : ℕ → Bool) (v w : ℕ) : Type 0 where
    pub leads : Leads v w
    pub member : s w ≡ true
    pub least : (u : ℕ) → Leads v u → s u ≡ true → w ≤ u

-- v is the smallest member
pub record IsLeast (s : ℕ → Bool) (v : ℕ) : Type 0 where
  pub member : s v ≡ true
  pub least : (u : ℕ) → s u ≡ true → v ≤ u

-- a walk through the set: from its smallest member, on to the smallest successor in the set, without a repeated node
pub record IsWalk (Leads : ℕ → ℕ → Type 0) (s : ℕ → Bool) (walk : List ℕ) : Type 0 where
  pub begins : 0 < length walk → IsLeast s (slice_index walk 0)
  pub goes_on : (k : ℕ) → k + 1 < length walk → IsSmallestSuccessor Leads s (slice_index walk k) (slice_index walk (k + 1))
  pub once : IsDistinct nat_eq walk

-- the walk closes: the smallest successor of its last node in the set is the walk's node at index k
pub record ClosesAt (Leads : ℕ → ℕ → Type 0) (s : ℕ → Bool) (walk : List ℕ) (k : ℕ) : Type 0 where
  pub walked : IsWalk Leads s walk
  pub place : k < length walk
  pub back : (n : ℕ) → n + 1 ≡ length walk → IsSmallestSuccessor Leads s (slice_index walk n) (slice_index walk k)

-- a rotation of the list that begins with its smallest number
pub record IsRotated (loop rotated : List ℕ) : Type 0 where
  pub prefix : List ℕ
  pub rest : List ℕ
  pub whole : loop ≡ prefix ++ rest
  pub rotate_to_min : rotated ≡ rest ++ prefix
  pub least : (k : ℕ) → k < length rotated → slice_index rotated 0 ≤ slice_index rotated k

-- the canonical cycle: the part of the walk from its repeated node on, rotated
pub record IsCanonicalCycle (Leads : ℕ → ℕ → Type 0) (cycle : List ℕ) : Type 0 where
  pub core_nodes : ℕ → Bool
  pub is_core : IsCycleCore Leads core_nodes
  pub walk : List ℕ
  pub place : ℕ
  pub closes_at : ClosesAt Leads core_nodes walk place
  pub rotated : IsRotated (drop place walk) cycle
