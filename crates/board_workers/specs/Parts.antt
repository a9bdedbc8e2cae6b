-- The shared parts that a worker is given, and the entries that all workers together make.
use Rattle.std.specs.Prelude.{◌≡◌, ◌<◌, ℕ, List, length, slice_index_or, slice_set, true, false}
use Rattle.work_board.specs.Graphs.{list_at, Modules}
use Rattle.work_board.specs.Cores.{has_entry, is_claimed, AreModuleEntries, AreShares, Core}

-- the shared parts of right entries of all modules that the module reaches, sorted by name
abbrev pub AreSharedPartsOf : {E X : Type 0} → (List ℕ → E → Type 0) → (E → X) → Modules → ℕ → List X → Type 0
AreSharedPartsOf {E = E} is_of shared_of g n parts =
    (c : Core E) × (length c.entries ≡ length g.names) × AreModuleEntries is_of g.names c.entries × AreShares shared_of g c n parts

-- the list has the entry of each module, by module number
pub record AreEntries {E : Type 0} (is_of : List ℕ → E → Type 0) (g : Modules) (entries : List E) : Type 0 where
  pub size : length entries ≡ length g.names
  pub own : (n : ℕ) (d : E) → n < length entries → is_of (list_at g.names n) (slice_index_or entries n d)

-- n is a module, and the parts are the shared parts from which its entry is made
abbrev pub IsJob : {E X : Type 0} → (List ℕ → E → Type 0) → (E → X) → Modules → ℕ → List X → Type 0
IsJob is_of shared_of g n parts = (n < length g.names) × AreSharedPartsOf is_of shared_of g n parts

-- each module has its entry
abbrev pub AreAllDelivered : {E : Type 0} → Core E → Type 0
AreAllDelivered c = (n : ℕ) → n < length c.entries → has_entry c.entries n ≡ true

-- module n isn't delivered in the scheduler c; d is c with n claimed
pub record IsHeld {E : Type 0} (c : Core E) (n : ℕ) (d : Core E) : Type 0 where
  pub within : n < length c.entries
  pub missing : has_entry c.entries n ≡ false
  pub held : is_claimed d n ≡ true
  pub claimed : d ≡ record c { claimed = slice_set c.claimed n true }
