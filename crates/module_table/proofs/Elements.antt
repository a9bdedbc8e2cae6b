-- Elements of lists by their indexes, and of mapped lists.
use Rattle.std.proofs.Common.{◌≡◌, ℕ, ◌<◌, List, [], ◌∷◌, length, get_or, map, Some, None, Option, refl, sym, ap, ◌∙◌, arith}
use Rattle.std.specs.Prelude.{slice_get, option_map, Contains}
use Rattle.std.proofs.lemmas.Option.{slice_get_within, slice_get-get_or, slice_get-map, get_or_from_slice_get}
use Rattle.module_table.specs.Order.{IsIncreasingBy, HasNoneBy}

module _ {X : Type 0} where
  pub some_one : (x y : X) → Some x ≡ Some y → x ≡ y
  some_one x y e = cc

  -- an element and its index
  pub contains_slice : (xs : List X) (k : ℕ) (x : X) → slice_get xs k ≡ Some x → Contains xs x
  contains_slice xs k x e = (k, slice_get_within xs k x e, get_or_from_slice_get xs k x x e)

  pub slice_contains : (xs : List X) (x : X) → Contains xs x → (k : ℕ) × (slice_get xs k ≡ Some x)
  slice_contains xs x h = (h.0, slice_get-get_or xs h.0 x h.1 ∙ ap Some h.2)

  -- there is an element with each index below the length
  pub slice_there : (xs : List X) (k : ℕ) → k < length xs → (x : X) × (slice_get xs k ≡ Some x)
  slice_there xs k l = (get_or xs k (first xs k l), slice_get-get_or xs k (first xs k l) l)
    where
      first : (xs : List X) (k : ℕ) → k < length xs → X
      first [] k l = absurd (omega (arith, l))
      first (x ∷ xs) k l = x

module _ {X Y : Type 0} (f : X → Y) where
  -- an element of the mapped list
  pub slice_of : (xs : List X) (k : ℕ) (x : X) → slice_get xs k ≡ Some x → slice_get (map f xs) k ≡ Some (f x)
  slice_of xs k x e = slice_get-map f xs k ∙ ap (option_map f) e

  pub contains_of : (xs : List X) (k : ℕ) (x : X) → slice_get xs k ≡ Some x → Contains (map f xs) (f x)
  contains_of xs k x e = contains_slice (map f xs) k (f x) (slice_of xs k x e)

  some_of : (o : Option X) (y : Y) → option_map f o ≡ Some y → (x : X) × (o ≡ Some x) × (f x ≡ y)
  some_of None y e = absurd (cc)
  some_of (Some x) y e = (x, refl, cc)

  pub of_slice : (xs : List X) (k : ℕ) (y : Y) → slice_get (map f xs) k ≡ Some y → (x : X) × (slice_get xs k ≡ Some x) × (f x ≡ y)
  of_slice xs k y e = some_of (slice_get xs k) y (sym (slice_get-map f xs k) ∙ e)

  pub of_contains : (xs : List X) (y : Y) → Contains (map f xs) y → (k : ℕ) × (x : X) × (slice_get xs k ≡ Some x) × (f x ≡ y)
  of_contains xs y h =
      let p = slice_contains (map f xs) y h in
      let q = of_slice xs p.0 y p.1 in
      (p.0, q.0, q.1, q.2)

  -- keys that increase in the mapped list increase in the list
  pub ascend_map : (n : Y → ℕ) (xs : List X) → IsIncreasingBy n (map f xs) → IsIncreasingBy (λ x. n (f x)) xs
  ascend_map n xs a i j x y l p q = a i j (f x) (f y) l (slice_of xs i x p) (slice_of xs j y q)

  pub map_ascend : (n : Y → ℕ) (xs : List X) → IsIncreasingBy (λ x. n (f x)) xs → IsIncreasingBy n (map f xs)
  map_ascend n xs a i j x y l p q =
      let v = of_slice xs i x p in
      let w = of_slice xs j y q in
      let h : n (f v.0) < n (f w.0) = a i j v.0 w.0 l v.1 w.1 in
      omega (arith, ap n v.2, ap n w.2)

  -- if no element of the list has a key, no element of the mapped list has it
  pub none_of : (n : Y → ℕ) (xs : List X) (k : ℕ) → HasNoneBy (λ x. n (f x)) xs k → (y : Y) → Contains (map f xs) y → n y ≡ k → ⊥
  none_of n xs k none y h e =
      let p = of_contains xs y h in
      none p.0 p.1 p.2 (ap n p.3 ∙ e)
