-- Sorted indexes: lists of entries with a key and the index of an element, sorted by key and then by index.
use Rattle.std.specs.Prelude.{◌≡◌, ℕ, ◌+◌, ◌≤◌, List, [], ◌∷◌, ◌++◌, slice_get, Option, Some, Bool, true, Contains}
use Rattle.std.specs.Option.{option_to_list}
use Rattle.std.specs.List.Sorted.{IsSortedBy}
use Rattle.std.specs.Ordering.{nat_cmp, ordering_then, is_lt}
use Rattle.std.specs.declared.cmp.Ordering.{Ordering}

-- the order of two entries: by key, then by index
abbrev pub rank_cmp : {E K : Type 0} → (K → K → Ordering) → (E → K) → (E → ℕ) → E → E → Ordering
rank_cmp R key index a b = ordering_then (R (key a) (key b)) (nat_cmp (index a) (index b))

-- the entries are sorted, without duplicates
abbrev pub AreRanked : {E K : Type 0} → (K → K → Ordering) → (E → K) → (E → ℕ) → List E → Type 0
AreRanked R key index es = IsSortedBy (λ a b. is_lt (rank_cmp R key index a b)) es

-- p is the smallest index among all entries with the key k
pub record IsSmallestIndex {E K : Type 0} (key : E → K) (index : E → ℕ) (es : List E) (k : K) (p : ℕ) : Type 0 where
  pub entry : E
  pub among : Contains es entry
  pub has : key entry ≡ k
  pub at : index entry ≡ p
  pub least : (e : E) → Contains es e → key e ≡ k → p ≤ index e

-- the element with index p fits the key
pub record Fits {K X : Type 0} (fits : K → X → Bool) (xs : List X) (k : K) (p : ℕ) : Type 0 where
  pub element : X
  pub there : slice_get xs p ≡ Some element
  pub so : fits k element ≡ true

-- an entry has this key, and its index is at most p
pub record HasEntry {E K : Type 0} (key : E → K) (index : E → ℕ) (es : List E) (k : K) (p : ℕ) : Type 0 where
  pub entry : E
  pub among : Contains es entry
  pub has : key entry ≡ k
  pub before : index entry ≤ p

-- the entries index a list: the element of each entry fits its key, and each element that fits a key is covered by an entry with at most
-- its index
pub record Indexes {E K X : Type 0} (key : E → K) (index : E → ℕ) (fits : K → X → Bool) (xs : List X) (es : List E) : Type 0 where
  pub sound : (e : E) → Contains es e → Fits fits xs (key e) (index e)
  pub complete : (k : K) (p : ℕ) → Fits fits xs k p → HasEntry key index es k p

-- the entries of the elements that have one, in order, each with the element's index
abbrev pub entries_from : {E X : Type 0} → (X → ℕ → Option E) → ℕ → List X → List E
entries_from f n [] = []
entries_from f n (x ∷ xs) = option_to_list (f x n) ++ entries_from f (n + 1) xs
