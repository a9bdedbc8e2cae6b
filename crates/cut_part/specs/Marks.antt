-- Flagged modules, and their new numbers.
use Rattle.std.specs.Prelude.{◌≡◌, ◌&&◌, ℕ, ◌<◌, ◌≤◌, Bool, true, List, length, map, slice_index, slice_set}
use Rattle.cut_net.specs.declared.priced.Priced.{Priced}
use Rattle.cut_net.specs.Network.{Network}
use Rattle.cut_net.specs.Cuts.{Any, IsSetOf, Chain}
use Rattle.cut_net.specs.AnswerClaim.{AnswerClaim, CutOf, BlockedBy}
use Rattle.residual_graph.specs.declared.arc.Arc.{Arc}
use Rattle.residual_graph.specs.Graphs.{is_flagged}
use Rattle.cut_part.specs.Subnetworks.{internal_flow, are_ends_in, part_of, IsBetween}
use Rattle.cut_part.specs.Renumbering.{flow_renumbered, renumbered, IsRenumbered}

-- an arc of capacity 1 for an import
abbrev pub unit_capacity_arc : Priced → Arc
unit_capacity_arc i = record { from = i.from; to = i.to; capacity = 1; flow = 0 }

-- the flagged modules are those that paths from the start reach
abbrev pub AreReachable : List Priced → ℕ → List Bool → Type 0
AreReachable imports start marks = IsSetOf (is_flagged marks) (Chain imports Any start)

-- the flags, with the flags of modules a and b set
abbrev pub with_ends : List Bool → ℕ → ℕ → List Bool
with_ends marks a b = slice_set (slice_set marks a true) b true

-- `numbers` has the flagged modules, sorted, and `new_numbers` for each flagged module its index in `numbers`
pub record IsNumbering (marks : List Bool) (numbers new_numbers : List ℕ) : Type 0 where
  pub count : length new_numbers ≡ length marks
  pub few : length numbers ≤ length marks
  pub ascend : (x y : ℕ) → x < y → y < length numbers → slice_index numbers x < slice_index numbers y
  pub low : (x : ℕ) → x < length numbers → slice_index numbers x < length marks
  pub marked : (x : ℕ) → x < length numbers → is_flagged marks (slice_index numbers x) ≡ true
  pub place_is : (x : ℕ) → x < length numbers → slice_index new_numbers (slice_index numbers x) ≡ x
  pub place_low : (m : ℕ) → is_flagged marks m ≡ true → slice_index new_numbers m < length numbers
  pub number_is : (m : ℕ) → is_flagged marks m ≡ true → slice_index numbers (slice_index new_numbers m) ≡ m

-- the subnetwork has the modules on paths from a to b, which are flagged, and a and b themselves, with new numbers, and the imports
-- between the flagged ones
pub record IsSubnetwork (net : Network) (a b : ℕ) (marks : List Bool) (numbers new_numbers : List ℕ) (small : Network) : Type 0 where
  pub between : IsSetOf (is_flagged marks) (IsBetween net a b)
  pub size : length marks ≡ length net.names
  pub renumbering : IsNumbering (with_ends marks a b) numbers new_numbers
  pub count : length small.names ≡ length numbers
  pub renumbered : IsRenumbered (part_of net (is_flagged marks)) small (slice_index numbers) (slice_index new_numbers)

-- the flow of the subnetwork, extended by 0 to all other imports
abbrev pub flow_in_net : List Bool → List ℕ → (Priced → ℕ) → Priced → ℕ
flow_in_net marks new_numbers flow = internal_flow (is_flagged marks) (flow_renumbered (slice_index new_numbers) flow)

-- the reported imports of the subnetwork, with the numbers of the whole network
abbrev pub reported_in_net : List Bool → List ℕ → (Priced → Bool) → Priced → Bool
reported_in_net marks new_numbers x i = are_ends_in (is_flagged marks) i && x (renumbered (slice_index new_numbers) i)

-- lines of the subnetwork, with the numbers of the whole network
abbrev pub renumbered_imports : List ℕ → List Priced → List Priced
renumbered_imports numbers lines = map (renumbered (slice_index numbers)) lines

-- an answer for the subnetwork, with the numbers of the whole network
abbrev pub claim_in_net : List ℕ → AnswerClaim → AnswerClaim
claim_in_net numbers (CutOf total printed flow) = CutOf total (renumbered_imports numbers printed) (renumbered_imports numbers flow)
claim_in_net numbers (BlockedBy chain) = BlockedBy (map (slice_index numbers) chain)

-- as `IsNumbering`, for the first `count` modules
pub record IsNumberingTo (marks : List Bool) (numbers new_numbers : List ℕ) (count : ℕ) : Type 0 where
  pub size : length new_numbers ≡ count
  pub few : length numbers ≤ count
  pub ascend : (x y : ℕ) → x < y → y < length numbers → slice_index numbers x < slice_index numbers y
  pub low : (x : ℕ) → x < length numbers → slice_index numbers x < count
  pub marked : (x : ℕ) → x < length numbers → is_flagged marks (slice_index numbers x) ≡ true
  pub place_is : (x : ℕ) → x < length numbers → slice_index new_numbers (slice_index numbers x) ≡ x
  pub place_low : (m : ℕ) → m < count → is_flagged marks m ≡ true → slice_index new_numbers m < length numbers
  pub number_is : (m : ℕ) → m < count → is_flagged marks m ≡ true → slice_index numbers (slice_index new_numbers m) ≡ m
