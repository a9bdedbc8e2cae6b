-- The value of an entry that is found by its key.
use Rattle.std.proofs.Common.{◌≡◌, ℕ, List, get_or, map, refl, sym, subst, ◌∙◌}
use Rattle.std.specs.Prelude.{Contains}
use Rattle.module_table.proofs.SearchResult.{placed_is}
use Rattle.module_table.specs.Order.{IsIncreasingBy, HasNoneBy, IsIndexBy}
use Rattle.scopes.specs.declared.meaning.Resolution.{Resolution}
use Rattle.scopes.specs.ScopesInvariant.{meaning_of}
use Rattle.scopes.specs.Scoped.{Meaning}
use Rattle.module_table.proofs.Around.{ascend_one}
use Rattle.module_table.proofs.Elements.{contains_of, none_of, slice_contains}

-- entries, their values and their keys
module _ {X Y : Type 0} (f : X → Y) (n : Y → ℕ) (rows : List X) (values : List Y) (are : map f rows ≡ values) (k : ℕ) where
  -- the value of the entry with the found index is in the list and has the key
  pub row_found : (at : ℕ) (row : X) → IsIndexBy (λ x. n (f x)) rows k at → row ≡ get_or rows at row → Contains values (f row) × (n (f row) ≡ k)
  row_found at row found read =
      let p = placed_is (λ x. n (f x)) rows k at row found read in
      let there = slice_contains rows row p.0 in
      (subst (λ (ys : List Y). Contains ys (f row)) are (contains_of f rows there.0 row there.1), p.1)

  -- no other value has the key if the keys are strictly increasing
  pub row_only : IsIncreasingBy n (map f rows) → (at : ℕ) (row : X) → IsIndexBy (λ x. n (f x)) rows k at → row ≡ get_or rows at row → (y : Y) → Contains values y → n y ≡ k → f row ≡ y
  row_only up at row found read y h e =
      let p = row_found at row found read in
      ascend_one n values (f row) y (subst (λ (ys : List Y). IsIncreasingBy n ys) are up) p.0 h (p.1 ∙ sym e)

  -- without an entry no value has the key
  pub row_none : HasNoneBy (λ x. n (f x)) rows k → (y : Y) → Contains values y → n y ≡ k → ⊥
  row_none none y h e = none_of f n rows k none y (subst (λ (ys : List Y). Contains ys y) (sym are) h) e

module _ (rows : List Resolution) (meanings : List Meaning) (are : map meaning_of rows ≡ meanings) (used : ℕ) where
  -- the entry with the found index is the meaning of the use
  pub resolved_found : (at : ℕ) (row : Resolution) → IsIndexBy (λ (m : Resolution). m.used) rows used at → row ≡ get_or rows at row → Contains meanings (record { used = used; declared = row.declared })
  resolved_found at row found read =
      let p = row_found meaning_of (λ (m : Meaning). m.used) rows meanings are used at row found read in
      subst (λ (u : ℕ). Contains meanings (record { used = u; declared = row.declared })) p.1 p.0

  -- without an entry the use means nothing
  pub resolved_none : HasNoneBy (λ (m : Resolution). m.used) rows used → (declared : ℕ) → Contains meanings (record { used = used; declared = declared }) → ⊥
  resolved_none none declared h = row_none meaning_of (λ (m : Meaning). m.used) rows meanings are used none (record { used = used; declared = declared }) h refl
