-- Lists that have an amount or None for each import, and the sums of these amounts.
use Rattle.std.specs.Prelude.{◌≡◌, ℕ, ◌≤◌, ◌<◌, false, List, Option, Some, None, unwrap_or, is_some, IfSome, Bool, length, slice_get, slice_index, slice_index_or}
use Rattle.cut_net.specs.declared.priced.Priced.{Priced}
use Rattle.cut_net.specs.Network.{Network}
use Rattle.cut_net.specs.Cuts.{entering, leaving}
use Rattle.cut_net.specs.Pins.{is_pinned, IsFlowWithPins}
use Rattle.cut_check.specs.declared.verdict.Verdict.{Verdict}
use Rattle.cut_check.specs.declared.verdict.Verdict.TheVariants.{Yes, NoSuchImport, StillChain, WrongWeight, OverWeight, NotKept, WrongValue, NotPinned}
use Rattle.cut_check.specs.Verdicts.{AreConserved, AreWithinWeights, HasValue, IsFirstUnbalanced, IsFirstOverWeight}

-- the list has for each import, by its index, the amount of the flow on it; None counts as 0
abbrev pub AreAmounts : List Priced → (Priced → ℕ) → List (Option ℕ) → Type 0
AreAmounts imports flow amounts = (k : ℕ) (d : Priced) → k < length imports → unwrap_or (slice_index_or amounts k None) 0 ≡ flow (slice_index_or imports k d)

-- none of the first `count` amounts exceeds the weight of its import, unless the import is pinned
abbrev pub AreWithin : Network → List (Option ℕ) → ℕ → Type 0
AreWithin net amounts count = (k : ℕ) (d : Priced) → k < count → is_pinned net (slice_index_or net.imports k d) ≡ false →
    unwrap_or (slice_index_or amounts k None) 0 ≤ (slice_index_or net.imports k d).amount

-- i is the first unpinned import whose amount exceeds its weight
pub record IsFirstAbove (net : Network) (amounts : List (Option ℕ)) (i : Priced) : Type 0 where
  pub index : ℕ
  pub at_index : slice_get net.imports index ≡ Some i
  pub free : is_pinned net i ≡ false
  pub above : i.amount < unwrap_or (slice_index_or amounts index None) 0
  pub before : AreWithin net amounts index

-- the lists have the inflow and the outflow of each module in the flow
pub record AreSums (imports : List Priced) (flow : Priced → ℕ) (modules : ℕ) (into out : List ℕ) : Type 0 where
  pub into_is : (m : ℕ) → m < modules → slice_index into m ≡ entering imports flow m
  pub out_is : (m : ℕ) → m < modules → slice_index out m ≡ leaving imports flow m

-- exactly the imports in the set x have amounts
abbrev pub HaveAmounts : List Priced → (Priced → Bool) → List (Option ℕ) → Type 0
HaveAmounts imports x amounts = (k : ℕ) (d : Priced) → k < length imports → is_some (slice_index_or amounts k None) ≡ x (slice_index_or imports k d)

-- each amount in the list equals the weight of its import
abbrev pub AreImportWeights : List Priced → List (Option ℕ) → Type 0
AreImportWeights imports amounts = (k : ℕ) (d : Priced) → k < length imports → IfSome (slice_index_or amounts k None) (λ x. x ≡ (slice_index_or imports k d).amount)

-- the verdict is right for a flow from a to b that is claimed to have the value `total`
abbrev pub IsFlowVerdict : Network → ℕ → ℕ → (Priced → ℕ) → ℕ → Verdict → Type 0
IsFlowVerdict net a b flow total Yes = IsFlowWithPins net a b flow total
IsFlowVerdict net a b flow total (NoSuchImport from to) = ⊥
IsFlowVerdict net a b flow total StillChain = ⊥
IsFlowVerdict net a b flow total WrongWeight = ⊥
IsFlowVerdict net a b flow total (OverWeight from to) = IsFirstOverWeight net flow from to
IsFlowVerdict net a b flow total (NotKept m) = AreWithinWeights net flow × IsFirstUnbalanced net a b flow m
IsFlowVerdict net a b flow total WrongValue = AreWithinWeights net flow × AreConserved net a b flow × (HasValue net a flow total → ⊥)
IsFlowVerdict net a b flow total (NotPinned from to) = ⊥
