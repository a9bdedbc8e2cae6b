-- The content of a memo table.
use Rattle.std.proofs.Common.{◌≡◌, ℕ, Bool, true, false, cond, Some, None, refl, sym, ap, ◌∙◌, subst, ◌⊎◌, inl, inr, []}
use Rattle.std.specs.Ordering.{nat_cmp}
use Rattle.std.specs.Map.{lookup}
use Rattle.std.specs.BTreeMap as ordered
use Rattle.indexmap.specs.IndexMap.{get}
use Rattle.type_graph.specs.declared.memo.MemoTable.{MemoTable}
use Rattle.type_graph.specs.Memoized.{in_table, by_hash, Adds, IsMemoized}

module _ {K V : Type 0} (same : K → K → Bool) where
  -- a table without entries stores nothing
  pub keeps_nothing : (memo : MemoTable K V) → memo.few.entries ≡ [] → memo.more.entries ≡ [] → (key : K) (value : V) → IsMemoized same memo key value → ⊥
  keeps_nothing memo few more key value (in_table is) = let f : None ≡ Some value = sym (ap (lookup (same key)) few) ∙ is in cc
  keeps_nothing memo few more key value (by_hash hash of is s) = let f : None ≡ Some (of, value) = sym (ap (lookup (ordered.is_at (nat_cmp hash))) more) ∙ is in cc

  -- a key more in the table
  pub adds_few : (before after : MemoTable K V) (key : K) (value : V) → ordered.IsUnchanged before.more after.more → ((k : K) → get same after.few k ≡ cond (same key k) (Some value) (get same before.few k)) → Adds same key value before after
  adds_few before after key value stays adds k v listed = of_kept listed
    where
      at : (b : Bool) → same key k ≡ b → cond b (Some value) (get same before.few k) ≡ Some v → IsMemoized same before k v ⊎ ((same key k ≡ true) × (value ≡ v))
      at false s is = inl (in_table is)
      at true s is = inr (s, cc)

      of_kept : IsMemoized same after k v → IsMemoized same before k v ⊎ ((same key k ≡ true) × (value ≡ v))
      of_kept (in_table is) = at (same key k) refl (sym (adds k) ∙ is)
      of_kept (by_hash hash of is s) = inl (by_hash hash of (sym (ap (lookup (ordered.is_at (nat_cmp hash))) stays) ∙ is) s)

  -- a further hash in the overflow map
  pub adds_more : (before after : MemoTable K V) (key : K) (value : V) (hash : ℕ) → after.few.entries ≡ before.few.entries →
      ((h : ℕ) → ordered.get nat_cmp after.more h ≡ cond (ordered.is_at (nat_cmp hash) h) (Some (key, value)) (ordered.get nat_cmp before.more h)) → Adds same key value before after
  adds_more before after key value hash stays adds k v listed = of_kept listed
    where
      at : (h : ℕ) (of : K) (b : Bool) → same of k ≡ true → cond b (Some (key, value)) (ordered.get nat_cmp before.more h) ≡ Some (of, v) → IsMemoized same before k v ⊎ ((same key k ≡ true) × (value ≡ v))
      at h of false s is = inl (by_hash h of is s)
      at h of true s is =
          let pair : (key, value) ≡ (of, v) = cc in
          inr (subst (λ (x : K). same x k ≡ true) (sym (ap (λ (p : K × V). p.0) pair)) s, ap (λ (p : K × V). p.1) pair)

      of_kept : IsMemoized same after k v → IsMemoized same before k v ⊎ ((same key k ≡ true) × (value ≡ v))
      of_kept (in_table is) = inl (in_table (sym (ap (lookup (same k)) stays) ∙ is))
      of_kept (by_hash h of is s) = at h of (ordered.is_at (nat_cmp hash) h) s (sym (adds h) ∙ is)

  -- nothing more
  pub adds_nothing : (before after : MemoTable K V) (key : K) (value : V) → after.few.entries ≡ before.few.entries → ordered.IsUnchanged before.more after.more → Adds same key value before after
  adds_nothing before after key value few more k v (in_table is) = inl (in_table (sym (ap (lookup (same k)) few) ∙ is))
  adds_nothing before after key value few more k v (by_hash hash of is s) = inl (by_hash hash of (sym (ap (lookup (ordered.is_at (nat_cmp hash))) more) ∙ is) s)
