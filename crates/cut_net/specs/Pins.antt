-- Cuts and flows in a network with pinned imports, which can't be removed and have unlimited capacity. Each definition corresponds to one
-- without pins, with which it agrees if nothing is pinned.
use Rattle.std.specs.Prelude.{◌≡◌, ◌≢◌, ◌↔◌, ℕ, ◌+◌, ◌^◌, ◌≤◌, ◌<◌, Bool, true, false, if◌then◌else◌, List, [], ◌∷◌, length, is_some, find, sum_by, All, Contains, IfSome}
use Rattle.std.specs.Ordering.{nat_cmp}
use Rattle.std.specs.Cmp.Lexicographic.{slice_cmp}
use Rattle.std.specs.declared.cmp.Ordering.TheVariants.{Greater}
use Rattle.cut_net.specs.declared.priced.Priced.{Priced}
use Rattle.cut_net.specs.Network.{Network}
use Rattle.cut_net.specs.AnswerClaim.{AnswerClaim, CutOf, BlockedBy}
use Rattle.cut_net.specs.Cuts.{Chain, IsChain, IsCut, IsSide, entering, leaves, leaving, have_equal_ends, weight}
use Rattle.cut_net.specs.Lines.{flow_by, removed_by, AreImportsInOrder}

-- the import is pinned
abbrev pub is_pinned : Network → Priced → Bool
is_pinned net i = is_some (find (have_equal_ends i) net.pins)

-- none of the network's imports in the set is pinned
abbrev pub IsRemovable : Network → (Priced → Bool) → Type 0
IsRemovable net x = (i : Priced) → Contains net.imports i → x i ≡ true → is_pinned net i ≡ false

-- ---- paths of pinned imports

-- the import is pinned, as a proposition
abbrev pub ByPin : Network → Priced → Type 0
ByPin net i = is_pinned net i ≡ true

-- a path of pinned imports leads from a to b
abbrev pub PinChain : Network → ℕ → ℕ → Type 0
PinChain net a b = Chain net.imports (ByPin net) a b

-- these modules are a path of pinned imports from a to b
abbrev pub IsPinChain : Network → ℕ → ℕ → List ℕ → Type 0
IsPinChain net a b [] = ⊥
IsPinChain net a b (m ∷ more) = (m ≡ a) × IsChain net.imports (ByPin net) m more b

-- the shortest path of pinned imports from a to b, of several the lexicographically smallest by module numbers, and so by names
pub record IsLeastPinChain (net : Network) (a b : ℕ) (chain : List ℕ) : Type 0 where
  pub is_chain : IsPinChain net a b chain
  pub fewest : (other : List ℕ) → IsPinChain net a b other → length chain ≤ length other
  pub least : (other : List ℕ) → IsPinChain net a b other → length other ≡ length chain → slice_cmp nat_cmp chain other ≢ Greater

-- ---- cuts

-- none of these imports is pinned, and without them no path leads from a to b
pub record IsCutWithPins (net : Network) (a b : ℕ) (x : Priced → Bool) : Type 0 where
  pub removable : IsRemovable net x
  pub cut : IsCut net a b x

-- a cut of unpinned imports that weighs no more than any other
pub record IsCheapestWithPins (net : Network) (a b : ℕ) (x : Priced → Bool) : Type 0 where
  pub cut : IsCutWithPins net a b x
  pub least : (y : Priced → Bool) → IsCutWithPins net a b y → weight net.imports x ≤ weight net.imports y

-- a source side that no pinned import leaves
pub record IsSideWithPins (net : Network) (a b : ℕ) (side : ℕ → Bool) : Type 0 where
  pub is_side : IsSide net a b side
  pub removable : IsRemovable net (leaves side)

-- a source side of minimum weight, of those that no pinned import leaves
pub record IsMinimumSideWithPins (net : Network) (a b : ℕ) (side : ℕ → Bool) : Type 0 where
  pub is_side : IsSideWithPins net a b side
  pub least : (other : ℕ → Bool) → IsSideWithPins net a b other → weight net.imports (leaves side) ≤ weight net.imports (leaves other)

-- the module is in the minimal source side with pins: in each source side of minimum weight among those that no pinned import leaves
abbrev pub InSourceSideWithPins : Network → ℕ → ℕ → ℕ → Type 0
InSourceSideWithPins net a b m = (side : ℕ → Bool) → IsMinimumSideWithPins net a b side → side m ≡ true

-- the import leaves the minimal source side with pins
abbrev pub LeavesSourceSideWithPins : Network → ℕ → ℕ → Priced → Type 0
LeavesSourceSideWithPins net a b i = InSourceSideWithPins net a b i.from × (InSourceSideWithPins net a b i.to → ⊥)

-- the import leaves the minimal source side, and its imported module has a path to b without imports that leave it
abbrev pub IsReportedWithPins : Network → ℕ → ℕ → Priced → Type 0
IsReportedWithPins net a b i = LeavesSourceSideWithPins net a b i × Chain net.imports (λ j. LeavesSourceSideWithPins net a b j → ⊥) i.to b

-- the set has exactly those imports of the network that are reported by the definition with pins
abbrev pub AreReportedWithPins : Network → ℕ → ℕ → (Priced → Bool) → Type 0
AreReportedWithPins net a b x = (i : Priced) → Contains net.imports i → (x i ≡ true) ↔ IsReportedWithPins net a b i

-- ---- flows

-- a flow: a number on each import, at most its weight unless it is pinned. The inflow of each module but a and b is its outflow, and the
-- value is the outflow of a less its inflow
pub record IsFlowWithPins (net : Network) (a b : ℕ) (flow : Priced → ℕ) (value : ℕ) : Type 0 where
  pub within : (i : Priced) → Contains net.imports i → is_pinned net i ≡ false → flow i ≤ i.amount
  pub kept : (m : ℕ) → m ≢ a → m ≢ b → entering net.imports flow m ≡ leaving net.imports flow m
  pub at_start : entering net.imports flow a + value ≡ leaving net.imports flow a

-- ---- claims

-- no reported import is pinned, each reported weight is that of its import, and the total is their sum
pub record AreWeightsWithPins (net : Network) (printed : List Priced) (total : ℕ) : Type 0 where
  pub removable : IsRemovable net (removed_by printed)
  pub each : (i : Priced) → Contains net.imports i → IfSome (find (have_equal_ends i) printed) (λ line. line.amount ≡ i.amount)
  pub sum : total ≡ weight net.imports (removed_by printed)

-- the checker accepts the cut: both lists are sorted imports, those to remove are a cut of unpinned imports with these weights and this
-- total, and the flow is one of value `total`
pub record IsValidClaimWithPins (net : Network) (a b : ℕ) (printed : List Priced) (total : ℕ) (flow : List Priced) : Type 0 where
  pub printed_in_order : AreImportsInOrder net printed
  pub flow_in_order : AreImportsInOrder net flow
  pub cut : IsCut net a b (removed_by printed)
  pub weights : AreWeightsWithPins net printed total
  pub is_flow : IsFlowWithPins net a b (flow_by flow) total

-- no path of pinned imports leads from a to b; the checker accepts the cut, its imports are exactly the reported ones, and no flow is 0
pub record IsCutAnswerWithPins (net : Network) (a b : ℕ) (printed : List Priced) (total : ℕ) (flow : List Priced) : Type 0 where
  pub free : PinChain net a b → ⊥
  pub right : IsValidClaimWithPins net a b printed total flow
  pub are_printed : AreReportedWithPins net a b (removed_by printed)
  pub flow_above_zero : All (λ line. 0 < line.amount) flow

-- the answer of a solver: a cut, or the shortest path of pinned imports from a to b
abbrev pub IsAnswerWithPins : Network → ℕ → ℕ → AnswerClaim → Type 0
IsAnswerWithPins net a b (CutOf total printed flow) = IsCutAnswerWithPins net a b printed total flow
IsAnswerWithPins net a b (BlockedBy chain) = IsLeastPinChain net a b chain

-- the claim is a cut of unpinned imports, and none weighs less; or no cut exists
abbrev pub IsCheapestAnswerWithPins : Network → ℕ → ℕ → AnswerClaim → Type 0
IsCheapestAnswerWithPins net a b (CutOf total printed flow) = IsCheapestWithPins net a b (removed_by printed)
IsCheapestAnswerWithPins net a b (BlockedBy chain) = (x : Priced → Bool) → IsCutWithPins net a b x → ⊥

-- ---- the invariant of pins

-- the limit on the sum of the weights of unpinned imports
abbrev pub most_weight : ℕ
most_weight = 2 ^ 40

-- the sum of the weights of unpinned imports
abbrev pub unpinned_weight : Network → ℕ
unpinned_weight net = sum_by (λ i. if is_pinned net i then 0 else i.amount) net.imports

-- the pins are imports of the network, strictly sorted; if there is one, the unpinned imports weigh at most 2 ^ 40 in sum. The weight of
-- a pinned import is 2 ^ 40 + 1, which exceeds the weight of every cut
pub record ArePins (net : Network) : Type 0 where
  pub in_order : AreImportsInOrder net net.pins
  pub heavy : (i : Priced) → Contains net.imports i → is_pinned net i ≡ true → i.amount ≡ most_weight + 1
  pub light : 0 < length net.pins → unpinned_weight net ≤ most_weight
