-- The two lists of a cut, of imports to remove and of flow. A line of a list has the modules of an import, and its weight or its flow.
use Rattle.std.specs.Prelude.{◌≡◌, ℕ, ◌<◌, ◌==◌, ◌&&◌, ◌||◌, nat_lt, Bool, List, Option, Some, None, is_some, IfSome, IsTrue, All, AllPairs, find, Contains}
use Rattle.std.specs.declared.cmp.Ordering.{Ordering}
use Rattle.std.specs.Ordering.{nat_cmp, ordering_then}
use Rattle.digraph.specs.declared.edge.Edge.{Edge}
use Rattle.cut_net.specs.declared.priced.Priced.{Priced}
use Rattle.cut_net.specs.Network.{Network}
use Rattle.cut_net.specs.AnswerClaim.{AnswerClaim, CutOf, BlockedBy}
use Rattle.cut_net.specs.Cuts.{Any, AreReported, Imports, IsCheapest, IsCut, IsFlow, have_equal_ends, weight}

-- the strict order of imports: by importer, then by imported module
abbrev pub comes_before : Priced → Priced → Bool
comes_before i j = nat_lt i.from j.from || ((i.from == j.from) && nat_lt i.to j.to)

-- compares by importer, then by imported module
abbrev pub compare_ends : Priced → Priced → Ordering
compare_ends i j = ordering_then (nat_cmp i.from j.from) (nat_cmp i.to j.to)

-- the import as an edge
abbrev pub edge_of : Priced → Edge
edge_of i = record { from = i.from; to = i.to }

-- the list is strictly sorted
abbrev pub IsAscending : List Priced → Type 0
IsAscending lines = AllPairs (λ i j. IsTrue (comes_before i j)) lines

-- the network has an import between these modules
abbrev pub IsImport : Network → Priced → Type 0
IsImport net line = Imports net.imports Any line.from line.to

-- the lines are imports of the network, strictly sorted
pub record AreImportsInOrder (net : Network) (lines : List Priced) : Type 0 where
  pub known : All (IsImport net) lines
  pub ascending : IsAscending lines

-- the amount of a line, 0 if there is no line
abbrev pub amount_in : Option Priced → ℕ
amount_in None = 0
amount_in (Some line) = line.amount

-- the set of the imports that have a line in the list
abbrev pub removed_by : List Priced → Priced → Bool
removed_by lines i = is_some (find (have_equal_ends i) lines)

-- the flow that the lines give an import: 0 on an import without a line
abbrev pub flow_by : List Priced → Priced → ℕ
flow_by lines i = amount_in (find (have_equal_ends i) lines)

-- each reported weight is that of its import, and the total is their sum
pub record AreWeights (net : Network) (printed : List Priced) (total : ℕ) : Type 0 where
  pub each : (i : Priced) → Contains net.imports i → IfSome (find (have_equal_ends i) printed) (λ line. line.amount ≡ i.amount)
  pub sum : total ≡ weight net.imports (removed_by printed)

-- the checker accepts the cut, if pins are ignored: both lists are sorted imports, those to remove are a cut with these weights and this
-- total, and the flow is one of value `total`
pub record IsValidClaim (net : Network) (a b : ℕ) (printed : List Priced) (total : ℕ) (flow : List Priced) : Type 0 where
  pub printed_in_order : AreImportsInOrder net printed
  pub flow_in_order : AreImportsInOrder net flow
  pub cut : IsCut net a b (removed_by printed)
  pub weights : AreWeights net printed total
  pub is_flow : IsFlow net a b (flow_by flow) total

-- what a solver has to return, if pins are ignored: the checker accepts the cut, its imports are exactly the reported ones, and no flow
-- is 0
pub record IsCutAnswer (net : Network) (a b : ℕ) (printed : List Priced) (total : ℕ) (flow : List Priced) : Type 0 where
  pub right : IsValidClaim net a b printed total flow
  pub are_printed : AreReported net a b (removed_by printed)
  pub flow_above_zero : All (λ line. 0 < line.amount) flow

-- the claim is a cut that a solver may return, if pins are ignored
abbrev pub IsAnswer : Network → ℕ → ℕ → AnswerClaim → Type 0
IsAnswer net a b (CutOf total printed flow) = IsCutAnswer net a b printed total flow
IsAnswer net a b (BlockedBy chain) = ⊥

-- the claim is a cut, and no cut weighs less, if pins are ignored
abbrev pub IsCheapestAnswer : Network → ℕ → ℕ → AnswerClaim → Type 0
IsCheapestAnswer net a b (CutOf total printed flow) = IsCheapest net a b (removed_by printed)
IsCheapestAnswer net a b (BlockedBy chain) = ⊥
