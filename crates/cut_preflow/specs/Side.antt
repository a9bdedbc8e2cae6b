-- Flags of the nodes that the source reaches by arcs with residual capacity.
use Rattle.std.specs.Prelude.{◌≡◌, ℕ, ◌*◌, ◌<◌, Bool, true, false, List, length, slice_index_or}
use Rattle.cut_net.specs.declared.priced.Priced.{Priced}
use Rattle.cut_preflow.specs.Preflow.{tail_in, head_in, residual_in}

-- the flag of a node
abbrev pub has : List Bool → ℕ → Bool
has bits v = slice_index_or bits v false

-- no residual arc with a number below `arcs` and with residual capacity leaves the set `side`
abbrev pub IsClosedBelow : List Priced → List ℕ → (ℕ → Bool) → ℕ → Type 0
IsClosedBelow imports flow side arcs =
    (arc : ℕ) → arc < arcs → 0 < residual_in imports flow arc → side (tail_in imports arc) ≡ true → side (head_in imports arc) ≡ true

-- each flagged node is in the set
abbrev pub IsWithin : List Bool → (ℕ → Bool) → Type 0
IsWithin bits side = (v : ℕ) → has bits v ≡ true → side v ≡ true

-- the flagged nodes are the smallest set with the source that no arc with residual capacity leaves
pub record IsReachableSet (imports : List Priced) (flow : List ℕ) (source : ℕ) (bits : List Bool) : Type 0 where
  pub starts : has bits source ≡ true
  pub closed : IsClosedBelow imports flow (has bits) (2 * length imports)
  pub least : (side : ℕ → Bool) → side source ≡ true → IsClosedBelow imports flow side (2 * length imports) → IsWithin bits side
