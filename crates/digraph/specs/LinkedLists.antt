-- Linked lists of numbered items, one list for each key, each from its last item back to its first.
use Rattle.std.specs.Prelude.{◌≡◌, ℕ, ◌+◌, ◌<◌, ◌≤◌, List, length, slice_index, slice_index_or}

-- the last of the first count numbers with the property, plus one; 0 if none has it
pub record IsLast (holds : ℕ → Type 0) (count next : ℕ) : Type 0 where
  pub within : next ≤ count
  pub own : (k : ℕ) → next ≡ k + 1 → holds k
  pub none_after : (k : ℕ) → next ≤ k → k < count → holds k → ⊥

-- the lists of the first count items: for each key its last item, and for each item the previous one of its list
pub record AreLinkedLists (on : ℕ → ℕ → Type 0) (list_count : ℕ) (last before : List ℕ) (count : ℕ) : Type 0 where
  pub size : length last ≡ list_count
  pub each : length before ≡ count
  pub lasts : (list : ℕ) → list < list_count → IsLast (on list) count (slice_index last list)
  pub befores : (k list : ℕ) → k < count → on list k → IsLast (on list) k (slice_index before k)

-- the item of this number is in the list of this key
abbrev pub IsInList : (ℕ → ℕ) → ℕ → ℕ → Type 0
IsInList key_of list k = key_of k ≡ list

-- the function gives each item the key that the relation gives it
abbrev pub AreKeys : {X : Type 0} → (X → ℕ → Type 0) → List X → (ℕ → ℕ) → Type 0
AreKeys {X} gives things key_of = (k : ℕ) (x : X) (list : ℕ) → k < length things → slice_index_or things k x ≡ x → gives x list → list ≡ key_of k
