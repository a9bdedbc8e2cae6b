-- The invariant of a scheduler.
use Rattle.std.specs.Prelude.{◌≡◌, ℕ, ◌<◌, ◌↔◌, zero, suc, List, [], length, slice_index, slice_index_or, cond, ◌+◌, ◌∷◌, Bool, true, false, Option}
use Rattle.work_board.specs.declared.state.State.{State}
use Rattle.work_board.specs.declared.state.State.TheVariants.{Waiting, Free, Claimed, Delivered}
use Rattle.work_board.specs.declared.claim.Claim.{Claim}
use Rattle.work_board.specs.declared.claim.Claim.TheVariants.{Finished, Module, Later}
use Rattle.work_board.specs.Graphs.{list_at, Modules, Reaches}
use Rattle.work_board.specs.Cores.{has_entry, AreModuleEntries}
use Rattle.work_board.specs.Marks.{marked}

abbrev pub state_at : List State → ℕ → State
state_at states n = slice_index_or states n Waiting

-- the module is claimed or delivered
abbrev pub taken : State → Bool
taken Waiting = false
taken Free = false
taken Claimed = true
taken Delivered = true

-- the state after `release_claims`
abbrev pub state_after_release : State → State
state_after_release Waiting = Waiting
state_after_release Free = Free
state_after_release Claimed = Free
state_after_release Delivered = Delivered

-- the state fits the number of imports that aren't delivered, and whether the module has an entry
abbrev pub IsStateOf : State → ℕ → Bool → Type 0
IsStateOf Waiting count there = (0 < count) × (there ≡ false)
IsStateOf Free count there = (count ≡ 0) × (there ≡ false)
IsStateOf Claimed count there = (count ≡ 0) × (there ≡ false)
IsStateOf Delivered count there = (count ≡ 0) × (there ≡ true)

-- the number of imports of a list that aren't delivered
abbrev pub undelivered_count : {E : Type 0} → List (Option E) → List ℕ → ℕ
undelivered_count entries [] = 0
undelivered_count entries (w ∷ row) = cond (has_entry entries w) 0 1 + undelivered_count entries row

-- what `choose_claim` finds: the first free module, or none, and whether all modules are delivered
abbrev pub IsChosenClaim : List State → Claim → Type 0
IsChosenClaim states Finished = (k : ℕ) → k < length states → state_at states k ≡ Delivered
IsChosenClaim states (Module n) = (n < length states) × (state_at states n ≡ Free) × ((k : ℕ) → k < n → state_at states k ≡ Free → ⊥)
IsChosenClaim states Later = ((k : ℕ) → k < length states → state_at states k ≡ Free → ⊥) × ((k : ℕ) × (k < length states) × (state_at states k ≡ Delivered → ⊥))

module _ {E : Type 0} (is_of : List ℕ → E → Type 0) (g : Modules) where
  pub record IsValidBoard (waiting : List ℕ) (states : List State) (reached : List (List Bool)) (spare : List Bool) (entries : List (Option E)) : Type 0 where
    pub entries_size : length entries ≡ length g.names
    pub waiting_size : length waiting ≡ length g.names
    pub states_size : length states ≡ length g.names
    pub reached_size : length reached ≡ length g.names
    pub spare_size : length spare ≡ length g.names
    pub width : (n : ℕ) → n < length g.names → length (list_at reached n) ≡ length g.names
    pub count_open : (m : ℕ) → m < length g.names → slice_index waiting m ≡ undelivered_count entries (list_at g.imports m)
    pub fits_state : (m : ℕ) → m < length g.names → IsStateOf (state_at states m) (slice_index waiting m) (has_entry entries m)
    pub own : AreModuleEntries is_of g.names entries
    pub flags : (m v : ℕ) → m < length g.names → v < length g.names → taken (state_at states m) ≡ true → (marked (list_at reached m) v ≡ true) ↔ Reaches g.imports m v

-- the state after imports were delivered, given the number of imports that aren't delivered yet
abbrev pub state_after_delivery : State → ℕ → State
state_after_delivery Waiting zero = Free
state_after_delivery Waiting (suc n) = Waiting
state_after_delivery Free n = Free
state_after_delivery Claimed n = Claimed
state_after_delivery Delivered n = Delivered

-- the number of undelivered imports fits the state
abbrev pub IsFit : State → ℕ → Type 0
IsFit Waiting count = 0 < count
IsFit Free count = count ≡ 0
IsFit Claimed count = count ≡ 0
IsFit Delivered count = count ≡ 0
