-- The scheduler as contracts see it: the entries by module number, a flag for each module whether it is claimed, and whether a module was
-- abandoned.
use Rattle.std.specs.Prelude.{◌≡◌, ℕ, ◌<◌, ◌≤◌, ◌⊎◌, ◌||◌, ◌&&◌, not, List, [], ◌∷◌, ◌↔◌, replicate, length, map, slice_index_or, slice_set, Bool, true, false, Option, None, Some, is_none, is_some, count_by, Result, Ok, Err}
use Rattle.work_board.specs.declared.claim.Claim.{Claim}
use Rattle.work_board.specs.declared.claim.Claim.TheVariants.{Finished, Module, Later}
use Rattle.work_board.specs.declared.claim.BoardFault.{BoardFault}
use Rattle.work_board.specs.declared.claim.BoardFault.TheVariants.{NotClaimed, Twice, WrongModule, Memory}
use Rattle.std.specs.List.{flat_map}
use Rattle.work_board.specs.Graphs.{list_at, IsNameOrder, Modules, ImportsModule, Reaches}

pub record Core (E : Type 0) : Type 0 where
  pub entries : List (Option E)
  pub claimed : List Bool
  pub abandoned : Bool

module _ {E : Type 0} where
  abbrev pub entry_at : List (Option E) → ℕ → Option E
  entry_at entries n = slice_index_or entries n None

  -- the module is delivered
  abbrev pub has_entry : List (Option E) → ℕ → Bool
  has_entry entries n = is_some (entry_at entries n)

  abbrev pub is_claimed : Core E → ℕ → Bool
  is_claimed c n = slice_index_or c.claimed n false

  -- the work is over: all modules are delivered, or one was abandoned
  abbrev pub IsOver : Core E → Type 0
  IsOver c = (c.abandoned ≡ true) ⊎ ((n : ℕ) → n < length c.entries → has_entry c.entries n ≡ true)

  -- no worker holds a module: each claimed module is delivered
  abbrev pub IsIdle : Core E → Type 0
  IsIdle c = (n : ℕ) → is_claimed c n ≡ true → has_entry c.entries n ≡ true

  -- the module isn't claimed, and all its imports are delivered
  pub record IsReady (imports : List (List ℕ)) (c : Core E) (n : ℕ) : Type 0 where
    pub within : n < length c.entries
    pub unclaimed : is_claimed c n ≡ false
    pub imported : (w : ℕ) → ImportsModule imports n w → has_entry c.entries w ≡ true

  -- the three results of `claim`, with the core before and after
  abbrev pub IsClaim : List (List ℕ) → Core E → Claim → Core E → Type 0
  IsClaim imports c Finished d = IsOver c × (d ≡ c)
  IsClaim imports c (Module n) d =
      (IsOver c → ⊥) × IsReady imports c n × ((m : ℕ) → IsReady imports c m → n ≤ m) × (d ≡ record c { claimed = slice_set c.claimed n true })
  IsClaim imports c Later d = (IsOver c → ⊥) × ((m : ℕ) → IsReady imports c m → ⊥) × (d ≡ c)

  -- the error with which a delivery for module n fails, given the name of the entry's module; None if it succeeds
  abbrev pub IsDeliveryFault : List (List ℕ) → List ℕ → Core E → ℕ → Option BoardFault → Type 0
  IsDeliveryFault names name c n None = (is_claimed c n ≡ true) × (has_entry c.entries n ≡ false) × (name ≡ list_at names n)
  IsDeliveryFault names name c n (Some NotClaimed) = is_claimed c n ≡ false
  IsDeliveryFault names name c n (Some Twice) = (is_claimed c n ≡ true) × (has_entry c.entries n ≡ true)
  IsDeliveryFault names name c n (Some WrongModule) = (is_claimed c n ≡ true) × (has_entry c.entries n ≡ false) × (name ≡ list_at names n → ⊥)
  IsDeliveryFault names name c n (Some Memory) = ⊥

  -- the results of `deliver`: the entry is stored, or returned with an error
  abbrev pub IsDelivery : List (List ℕ) → List ℕ → E → ℕ → Core E → Result (Unit {0}) (BoardFault × E) → Core E → Type 0
  IsDelivery names name e n c (Ok _) d = IsDeliveryFault names name c n None × (d ≡ record c { entries = slice_set c.entries n (Some e) })
  IsDelivery names name e n c (Err r) d = IsDeliveryFault names name c n (Some r.0) × (r.1 ≡ e) × (d ≡ c)

  -- the flag `abandoned` after `abandon`: it is set if it was set before, or if the module is claimed and not delivered
  abbrev pub abandoned_after : Core E → ℕ → Bool
  abandoned_after c n = c.abandoned || (is_claimed c n && not (has_entry c.entries n))

  -- the core in which a module is claimed exactly if it is delivered
  abbrev pub with_claims_released : Core E → Core E
  with_claims_released c = record c { claimed = map is_some c.entries }

  -- the number of modules that aren't delivered
  abbrev pub missing : Core E → ℕ
  missing c = count_by is_none c.entries

  -- each entry is the entry of its module, by its name
  abbrev pub AreModuleEntries : (List ℕ → E → Type 0) → List (List ℕ) → List (Option E) → Type 0
  AreModuleEntries is_of names entries = (n : ℕ) (e : E) → entry_at entries n ≡ Some e → is_of (list_at names n) e

-- a list with the shared part of the entry, if the flag is set and there is an entry; otherwise the empty list
abbrev pub shared_part : {E X : Type 0} → (E → X) → Bool → Option E → List X
shared_part f true (Some e) = f e ∷ []
shared_part f true None = []
shared_part f false entry = []

-- the shared part of the entry of a module whose flag is set
abbrev pub share_at : {E X : Type 0} → (E → X) → List Bool → List (Option E) → ℕ → List X
share_at f flags entries v = shared_part f (slice_index_or flags v false) (entry_at entries v)

-- the parts are the shared parts of exactly the modules that n reaches, sorted by name, and all of these modules are delivered
pub record AreShares {E X : Type 0} (f : E → X) (g : Modules) (c : Core E) (n : ℕ) (parts : List X) : Type 0 where
  pub order : List ℕ
  pub by_name : IsNameOrder g.names order
  pub flags : List Bool
  pub reached : (v : ℕ) → v < length c.entries → (slice_index_or flags v false ≡ true) ↔ Reaches g.imports n v
  pub there : (v : ℕ) → Reaches g.imports n v → has_entry c.entries v ≡ true
  pub parts_are : parts ≡ flat_map (share_at f flags c.entries) order

-- the core of a new scheduler for this number of modules
abbrev pub new_core : {E : Type 0} → ℕ → Core E
new_core count = record { entries = replicate count None; claimed = replicate count false; abandoned = false }
