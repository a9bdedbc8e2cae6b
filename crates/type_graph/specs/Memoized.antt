-- The content of a memo table.
use Rattle.std.specs.Prelude.{◌≡◌, ◌⊎◌, ℕ, Bool, true, Some}
use Rattle.std.specs.Ordering.{nat_cmp}
use Rattle.std.specs.BTreeMap as ordered
use Rattle.indexmap.specs.IndexMap.{get}
use Rattle.type_graph.specs.declared.memo.MemoTable.{MemoTable}

module _ {K V : Type 0} (same : K → K → Bool) where
  -- a value is stored for a key: in the hash table, or for an equal key in the search tree under a hash
  pub data IsMemoized (memo : MemoTable K V) (key : K) (value : V) : Type 0 where
    in_table : get same memo.few key ≡ Some value → IsMemoized memo key value
    by_hash : (hash : ℕ) (of : K) → ordered.get nat_cmp memo.more hash ≡ Some (of, value) → same of key ≡ true → IsMemoized memo key value

  -- every stored value was stored before, or is the added one
  abbrev pub Adds : K → V → MemoTable K V → MemoTable K V → Type 0
  Adds key value before after = (k : K) (v : V) → IsMemoized after k v → IsMemoized before k v ⊎ ((same key k ≡ true) × (value ≡ v))
