-- The verdict on a cut with a flow, or on a path of pinned imports: `Yes`, or the first cause against it.
use Rattle.std.specs.Prelude.{◌≡◌, ◌≢◌, ◌⊎◌, ℕ, ◌+◌, ◌-◌, ◌<◌, false, List, Some, length, slice_get, slice_index, take, Contains}
use Rattle.cut_net.specs.declared.priced.Priced.{Priced}
use Rattle.cut_net.specs.Network.{Network}
use Rattle.cut_net.specs.AnswerClaim.{AnswerClaim, CutOf, BlockedBy}
use Rattle.cut_net.specs.Cuts.{Chain, Imports, Outside, entering, leaving}
use Rattle.cut_net.specs.Lines.{AreImportsInOrder, removed_by, flow_by}
use Rattle.cut_net.specs.Pins.{is_pinned, AreWeightsWithPins, ByPin, IsPinChain, IsValidClaimWithPins}
use Rattle.cut_check.specs.declared.verdict.Verdict.{Verdict}
use Rattle.cut_check.specs.declared.verdict.Verdict.TheVariants.{Yes, NoSuchImport, StillChain, WrongWeight, OverWeight, NotKept, WrongValue, NotPinned}

-- the first line that isn't an import of the network or isn't after its predecessor has the importer `from` and the imported module `to`
pub record IsFirstInvalidIn (net : Network) (lines : List Priced) (from to : ℕ) : Type 0 where
  pub index : ℕ
  pub line : Priced
  pub at_index : slice_get lines index ≡ Some line
  pub ends : (line.from ≡ from) × (line.to ≡ to)
  pub before : AreImportsInOrder net (take index lines)
  pub stray : AreImportsInOrder net (take (index + 1) lines) → ⊥

-- the first line that isn't an import of the network or isn't after its predecessor is from `from` to `to`; lines of reported imports come
-- before lines of the flow
abbrev pub IsFirstInvalidLine : Network → List Priced → List Priced → ℕ → ℕ → Type 0
IsFirstInvalidLine net printed flow from to = IsFirstInvalidIn net printed from to ⊎ (AreImportsInOrder net printed × IsFirstInvalidIn net flow from to)

-- the reported imports and the flow are lists of imports of the network, each strictly sorted
pub record AreImportLines (net : Network) (printed flow : List Priced) : Type 0 where
  pub printed_in_order : AreImportsInOrder net printed
  pub flow_in_order : AreImportsInOrder net flow

-- a path leads from a to b by imports that aren't reported
abbrev pub HasChainLeft : Network → ℕ → ℕ → List Priced → Type 0
HasChainLeft net a b printed = Chain net.imports (Outside (removed_by printed)) a b

-- all lines are imports of the network, in order, and each path from a to b uses a reported import
pub record HasCut (net : Network) (a b : ℕ) (printed flow : List Priced) : Type 0 where
  pub read : AreImportLines net printed flow
  pub no_chain : HasChainLeft net a b printed → ⊥

-- the first unpinned import whose flow exceeds its weight is from `from` to `to`
pub record IsFirstOverWeight (net : Network) (flow : Priced → ℕ) (from to : ℕ) : Type 0 where
  pub index : ℕ
  pub import : Priced
  pub at_index : slice_get net.imports index ≡ Some import
  pub ends : (import.from ≡ from) × (import.to ≡ to)
  pub free : is_pinned net import ≡ false
  pub over : import.amount < flow import
  pub before : (i : Priced) → Contains (take index net.imports) i → is_pinned net i ≡ false → i.amount < flow i → ⊥

-- on no unpinned import the flow exceeds the import's weight
abbrev pub AreWithinWeights : Network → (Priced → ℕ) → Type 0
AreWithinWeights net flow = (i : Priced) → Contains net.imports i → is_pinned net i ≡ false → i.amount < flow i → ⊥

-- m is neither a nor b, and its inflow differs from its outflow
abbrev pub IsUnbalanced : Network → ℕ → ℕ → (Priced → ℕ) → ℕ → Type 0
IsUnbalanced net a b flow m = (m ≢ a) × (m ≢ b) × (entering net.imports flow m ≢ leaving net.imports flow m)

-- m is the module with the smallest number, other than a and b, whose inflow differs from its outflow
pub record IsFirstUnbalanced (net : Network) (a b : ℕ) (flow : Priced → ℕ) (m : ℕ) : Type 0 where
  pub off : IsUnbalanced net a b flow m
  pub least : (n : ℕ) → n < m → IsUnbalanced net a b flow n → ⊥

-- the inflow of each module other than a and b equals its outflow
abbrev pub AreConserved : Network → ℕ → ℕ → (Priced → ℕ) → Type 0
AreConserved net a b flow = (m : ℕ) → IsUnbalanced net a b flow m → ⊥

-- the outflow of a minus its inflow is this value
abbrev pub HasValue : Network → ℕ → (Priced → ℕ) → ℕ → Type 0
HasValue net a flow value = entering net.imports flow a + value ≡ leaving net.imports flow a

-- the verdict is right for a cut: it is `Yes`, or a cause against the cut, and none of the causes before it holds
abbrev pub IsCutVerdict : Network → ℕ → ℕ → List Priced → ℕ → List Priced → Verdict → Type 0
IsCutVerdict net a b printed total flow Yes = IsValidClaimWithPins net a b printed total flow
IsCutVerdict net a b printed total flow (NoSuchImport from to) = IsFirstInvalidLine net printed flow from to
IsCutVerdict net a b printed total flow StillChain = AreImportLines net printed flow × HasChainLeft net a b printed
IsCutVerdict net a b printed total flow WrongWeight = HasCut net a b printed flow × (AreWeightsWithPins net printed total → ⊥)
IsCutVerdict net a b printed total flow (OverWeight from to) =
    HasCut net a b printed flow × AreWeightsWithPins net printed total × IsFirstOverWeight net (flow_by flow) from to
IsCutVerdict net a b printed total flow (NotKept m) =
    HasCut net a b printed flow × AreWeightsWithPins net printed total × AreWithinWeights net (flow_by flow) × IsFirstUnbalanced net a b (flow_by flow) m
IsCutVerdict net a b printed total flow WrongValue =
    HasCut net a b printed flow × AreWeightsWithPins net printed total × AreWithinWeights net (flow_by flow) × AreConserved net a b (flow_by flow) × (HasValue net a (flow_by flow) total → ⊥)
IsCutVerdict net a b printed total flow (NotPinned from to) = ⊥

-- the first of these modules is a, and the last is b
abbrev pub AreChainEnds : ℕ → ℕ → List ℕ → Type 0
AreChainEnds a b chain = (0 < length chain) × (slice_index chain 0 ≡ a) × (slice_index chain (length chain - 1) ≡ b)

-- the module at this index imports the next one by a pinned import
abbrev pub IsPinnedAt : Network → List ℕ → ℕ → Type 0
IsPinnedAt net chain index = Imports net.imports (ByPin net) (slice_index chain index) (slice_index chain (index + 1))

-- `from` and `to` are the first two consecutive modules of the path such that no pinned import leads from `from` to `to`
pub record IsFirstUnpinned (net : Network) (chain : List ℕ) (from to : ℕ) : Type 0 where
  pub index : ℕ
  pub within : index + 1 < length chain
  pub ends : (slice_index chain index ≡ from) × (slice_index chain (index + 1) ≡ to)
  pub unpinned : IsPinnedAt net chain index → ⊥
  pub before : (j : ℕ) → j < index → IsPinnedAt net chain j

-- the verdict is right for a path of pinned imports: its first and last module are compared first, then its imports
abbrev pub IsChainVerdict : Network → ℕ → ℕ → List ℕ → Verdict → Type 0
IsChainVerdict net a b chain Yes = IsPinChain net a b chain
IsChainVerdict net a b chain (NoSuchImport from to) = ⊥
IsChainVerdict net a b chain StillChain = AreChainEnds a b chain → ⊥
IsChainVerdict net a b chain WrongWeight = ⊥
IsChainVerdict net a b chain (OverWeight from to) = ⊥
IsChainVerdict net a b chain (NotKept m) = ⊥
IsChainVerdict net a b chain WrongValue = ⊥
IsChainVerdict net a b chain (NotPinned from to) = AreChainEnds a b chain × IsFirstUnpinned net chain from to

-- the verdict is right for an answer for the modules a and b
abbrev pub IsVerdict : Network → ℕ → ℕ → AnswerClaim → Verdict → Type 0
IsVerdict net a b (CutOf total printed flow) verdict = IsCutVerdict net a b printed total flow verdict
IsVerdict net a b (BlockedBy chain) verdict = IsChainVerdict net a b chain verdict

-- some verdict is right for the answer
abbrev pub HasVerdict : Network → ℕ → ℕ → AnswerClaim → Type 0
HasVerdict net a b claim = (verdict : Verdict) × IsVerdict net a b claim verdict
