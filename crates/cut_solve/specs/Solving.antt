-- Outcomes of a solver for two names.
use Rattle.std.specs.Prelude.{◌≡◌, ◌≢◌, ◌⊎◌, ℕ, true, List, Some, None, Result, Ok, Err, Contains}
use Rattle.std.specs.String.{string_bytes}
use Rattle.cut_net.specs.Network.{Network, index_of}
use Rattle.cut_net.specs.declared.priced.Priced.{Priced}
use Rattle.cut_net.specs.AnswerClaim.{AnswerClaim, CutOf, BlockedBy}
use Rattle.cut_net.specs.Cuts.{Chain, Outside, without}
use Rattle.cut_net.specs.Lines.{removed_by}
use Rattle.cut_net.specs.Pins.{IsAnswerWithPins, IsCheapestAnswerWithPins}
use Rattle.cut_solve.specs.declared.fault.SolveFault.{SolveFault}
use Rattle.cut_solve.specs.declared.fault.SolveFault.TheVariants as faults

-- the names denote two different modules a and b. If no path of pinned imports leads from a to b, the claim is a cheapest cut of unpinned
-- imports, with its weight and a flow of that value. Otherwise it is the shortest path of pinned imports, and no cut exists
pub record IsSolved (net : Network) (from to : List ℕ) (claim : AnswerClaim) : Type 0 where
  pub a : ℕ
  pub b : ℕ
  pub from_is : index_of net from ≡ Some a
  pub to_is : index_of net to ≡ Some b
  pub apart : a ≢ b
  pub answer : IsAnswerWithPins net a b claim
  pub cheapest : IsCheapestAnswerWithPins net a b claim

-- each reported import is needed: if only the other reported imports are removed, a path still leads from a to b. An answer with a path of
-- pinned imports reports no import
abbrev pub IsEachNeeded : Network → ℕ → ℕ → AnswerClaim → Type 0
IsEachNeeded net a b (CutOf total printed flow) =
    (i : Priced) → Contains net.imports i → removed_by printed i ≡ true → Chain net.imports (Outside (without (removed_by printed) i)) a b
IsEachNeeded net a b (BlockedBy chain) = Unit {0}

-- each import that the answer reports is needed, for the two modules that the names denote
abbrev pub AreNeeded : Network → List ℕ → List ℕ → AnswerClaim → Type 0
AreNeeded net from to claim = (a b : ℕ) → index_of net from ≡ Some a → index_of net to ≡ Some b → IsEachNeeded net a b claim

-- both names denote one module
pub record IsSameModule (net : Network) (from to : List ℕ) : Type 0 where
  pub a : ℕ
  pub from_is : index_of net from ≡ Some a
  pub to_is : index_of net to ≡ Some a

-- `name` is the first of the names `from` and `to` that no module has
abbrev pub IsFirstUnknown : Network → List ℕ → List ℕ → List ℕ → Type 0
IsFirstUnknown net from to name =
    ((index_of net from ≡ None) × (name ≡ from)) ⊎ (((a : ℕ) × (index_of net from ≡ Some a)) × (index_of net to ≡ None) × (name ≡ to))

-- an error in the two names: both denote one module, or no module has this name (a list of bytes)
pub data SolveError : Type 0 where
  SameModule : SolveError
  NoSuchModule : List ℕ → SolveError

-- this is an outcome for the two names: the right answer (a cut or a path of pinned imports), or the error in the names
abbrev pub IsSolveOutcome : Network → List ℕ → List ℕ → Result AnswerClaim SolveError → Type 0
IsSolveOutcome net from to (Ok claim) = IsSolved net from to claim
IsSolveOutcome net from to (Err SameModule) = IsSameModule net from to
IsSolveOutcome net from to (Err (NoSuchModule name)) = IsFirstUnknown net from to name

-- the answers have equal cuts and weights, whatever their flows, or equal paths of pinned imports
abbrev pub AreEqualAnswers : AnswerClaim → AnswerClaim → Type 0
AreEqualAnswers (CutOf total printed flow) (CutOf again others more) = (total ≡ again) × (printed ≡ others)
AreEqualAnswers (BlockedBy chain) (BlockedBy other) = chain ≡ other
AreEqualAnswers (CutOf total printed flow) (BlockedBy chain) = ⊥
AreEqualAnswers (BlockedBy chain) (CutOf total printed flow) = ⊥

-- the outcomes are answers with equal cuts and weights or equal paths, or they are equal errors
abbrev pub AreEqualOutcomes : Result AnswerClaim SolveError → Result AnswerClaim SolveError → Type 0
AreEqualOutcomes (Ok claim) (Ok other) = AreEqualAnswers claim other
AreEqualOutcomes (Err refusal) (Err other) = refusal ≡ other
AreEqualOutcomes (Ok claim) (Err refusal) = ⊥
AreEqualOutcomes (Err refusal) (Ok claim) = ⊥

-- the result is the number of the module with this name; or `NoSuchModule`, and no module has it; or `Memory`
abbrev pub IsModuleLookup : Network → List ℕ → Result ℕ SolveFault → Type 0
IsModuleLookup net name (Ok module_) = index_of net name ≡ Some module_
IsModuleLookup net name (Err faults.SameModule) = ⊥
IsModuleLookup net name (Err (faults.NoSuchModule unknown)) = (index_of net name ≡ None) × (string_bytes unknown ≡ name)
IsModuleLookup net name (Err faults.Memory) = Unit {0}
