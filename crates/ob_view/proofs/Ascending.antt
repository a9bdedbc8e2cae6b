-- The index of a name in a strictly increasing list of names.
use Rattle.std.proofs.Common.{◌≡◌, ℕ, zero, suc, ◌+◌, ◌<◌, inl, inr, List, [], ◌∷◌, length, map, get_or, Bool, cond, not, Option, Some, None, Result, Ok, Err, refl, sym, ap, ◌∙◌, subst, arith, nat_lt}
use Rattle.std.specs.Prelude.{position, slice_get}
use Rattle.std.specs.Option.{option_and_then, option_map}
use Rattle.std.proofs.lemmas.Option.{slice_get-map}
use Rattle.std.specs.Cmp.Lexicographic.{slice_cmp}
use Rattle.std.specs.List.{AllAdjacentBelow, position_or_len}
use Rattle.std.specs.List.Sorted.{IsBinarySearchResult, IsSearchInRange, IsSortedBy}
use Rattle.std.specs.Ordering.{nat_cmp, is_eq, is_lt, ordering_reverse}
use Rattle.std.specs.Result.{result_ok}
use Rattle.std.specs.Str.{bytes_eq}
use Rattle.std.specs.declared.cmp.Ordering.TheVariants.{Less, Equal}
use Rattle.std.proofs.lemmas.Bool.{cases_lt}
use Rattle.std.proofs.lemmas.Cmp.{nat_list_cmp_total}
use Rattle.std.proofs.lemmas.List.{length-map, map_push, take_more}
use Rattle.std.proofs.lemmas.List.Sorted.{searchable_from_sorted}
use Rattle.std.proofs.lemmas.Map.Lookups.{exact_bytes}
use Rattle.std.proofs.lemmas.Map.Text.{is_eq-slice_cmp}
use Rattle.std.proofs.Common.{◌++◌, Global, take}
use Rattle.std.specs.Arc.{arc_value}
use Rattle.std.specs.declared.sync.Arc.{Arc}
use Rattle.std.proofs.lemmas.List.{get_or-map}
use Rattle.ob_interface.specs.Interfaces.{ModuleInterface}
use Rattle.ob_view.specs.ModuleNumbers.{module_number_in, AreByName}
use Rattle.ob_view.proofs.Firsts.{position_is, position_not}

-- ---- indexes in a mapped list

first_of_images : {X Y : Type 0} (p : Y → Bool) (f : X → Y) (xs : List X) → position_or_len p (map f xs) ≡ position_or_len (λ (x : X). p (f x)) xs
first_of_images p f [] = refl
first_of_images p f (x ∷ xs) = ap (λ (n : ℕ). cond (not (p (f x))) (1 + n) 0) (first_of_images p f xs)

pub place_of_images : {X Y : Type 0} (p : Y → Bool) (f : X → Y) (xs : List X) → position p (map f xs) ≡ position (λ (x : X). p (f x)) xs
place_of_images p f xs =
    ap (λ (n : ℕ). cond (nat_lt n (length (map f xs))) (Some n) None) (first_of_images p f xs)
    ∙ ap (λ (n : ℕ). cond (nat_lt (position_or_len (λ x. p (f x)) xs) n) (Some (position_or_len (λ x. p (f x)) xs)) None) (length-map xs f)

---- sorted names

module _ {X : Type 0} (name : X → List ℕ) where
  abbrev pub Ascend : List X → Type 0
  Ascend xs = AllAdjacentBelow (λ (a b : X). slice_cmp nat_cmp (name a) (name b) ≡ Less) xs (length xs)

  sorted : (xs : List X) → Ascend xs → IsSortedBy (λ (a b : X). is_lt (slice_cmp nat_cmp (name a) (name b))) xs
  sorted xs s k d low high = ap is_lt (nat_list_cmp_total.antisymm (name (get_or xs (k + 1) d)) (name (get_or xs k d)) ∙ ap ordering_reverse (s k d high))

  pub less : (xs : List X) → Ascend xs → (d : X) (i j : ℕ) → j < i → i < length xs → slice_cmp nat_cmp (name (get_or xs j d)) (name (get_or xs i d)) ≡ Less
  less xs s d zero j l h = absurd (omega arith)
  less xs s d (suc i) j l h =
      let e : i + 1 ≡ suc i = omega arith in
      let here : slice_cmp nat_cmp (name (get_or xs i d)) (name (get_or xs (suc i) d)) ≡ Less =
      subst (λ (n : ℕ). slice_cmp nat_cmp (name (get_or xs i d)) (name (get_or xs n d)) ≡ Less) e (s i d (omega arith)) in
      elim (cases_lt j i) [
        | inl b ↦ nat_list_cmp_total.trans (name (get_or xs j d)) (name (get_or xs i d)) (name (get_or xs (suc i) d)) (less xs s d i j b (omega arith)) here
        | inr b ↦ (let same : i ≡ j = omega (arith, l, b) in subst (λ (n : ℕ). slice_cmp nat_cmp (name (get_or xs n d)) (name (get_or xs (suc i) d)) ≡ Less) same here)
      ]

  tells : (x : X) (key : List ℕ) → bytes_eq (name x) key ≡ is_eq (slice_cmp nat_cmp (name x) key)
  tells x key = sym (is_eq-slice_cmp (name x) key)

  pub found : (xs : List X) (key : List ℕ) (i : ℕ) → Ascend xs → i < length xs → ((d : X) → slice_cmp nat_cmp (name (get_or xs i d)) key ≡ Equal) → position (λ (x : X). bytes_eq (name x) key) xs ≡ Some i
  found [] key i s l at = absurd (omega arith)
  found (x ∷ xs) key i s l at =
      let is : name (get_or (x ∷ xs) i x) ≡ key = exact_bytes (name (get_or (x ∷ xs) i x)) key (at x) in
      position_is (λ (y : X). bytes_eq (name y) key) (x ∷ xs) i x l
      (λ j h.
      tells (get_or (x ∷ xs) j x) key
      ∙ ap is_eq (subst (λ (n : List ℕ). slice_cmp nat_cmp (name (get_or (x ∷ xs) j x)) n ≡ Less) is (less (x ∷ xs) s x i j h l)))
      (tells (get_or (x ∷ xs) i x) key ∙ ap is_eq (at x))

  -- a binary search finds the first module of a name
  pub searched : (xs : List X) (key : List ℕ) (r : Result ℕ ℕ) → Ascend xs → IsSearchInRange r (length xs) → IsBinarySearchResult (λ (x : X). slice_cmp nat_cmp (name x) key) xs r
      → result_ok r ≡ position (λ (x : X). bytes_eq (name x) key) xs
  searched xs key (Ok i) s bound at = sym (found xs key i s bound at)
  searched xs key (Err i) s bound at =
      let point = at (searchable_from_sorted nat_list_cmp_total name xs key (sorted xs s)) in
      sym (position_not (λ (x : X). bytes_eq (name x) key) xs (λ j d l. elim (cases_lt j i) [
        | inl b ↦ tells (get_or xs j d) key ∙ ap is_eq (point.0 j d (omega arith) b)
        | inr b ↦ tells (get_or xs j d) key ∙ ap is_eq (point.1 j d b l)
      ]))

-- ---- modules

abbrev pub Shared : Type 0
Shared = Arc ModuleInterface Global

abbrev pub name_of : Shared → List ℕ
name_of a = (arc_value a).name

ascends : (reached : List Shared) → AreByName (map arc_value reached) → Ascend name_of reached
ascends reached s k d h =
    let l : k + 1 < length (map arc_value reached) = omega (arith, length-map reached arc_value) in
    subst (λ (m : ModuleInterface). slice_cmp nat_cmp m.name (arc_value (get_or reached (k + 1) d)).name ≡ Less) (get_or-map arc_value reached k d (arc_value d) (omega arith))
    (subst (λ (n : ModuleInterface). slice_cmp nat_cmp (get_or (map arc_value reached) k (arc_value d)).name n.name ≡ Less) (get_or-map arc_value reached (k + 1) d (arc_value d) h) (s k (arc_value d) l))

-- the result of a binary search by name
pub among_modules : (reached : List Shared) (key : List ℕ) (r : Result ℕ ℕ) → AreByName (map arc_value reached) → IsSearchInRange r (length reached)
    → IsBinarySearchResult (λ (a : Shared). slice_cmp nat_cmp (name_of a) key) reached r → result_ok r ≡ module_number_in (map arc_value reached) key
among_modules reached key r s bound at = searched name_of reached key r (ascends reached s) bound at ∙ sym (place_of_images (λ (m : ModuleInterface). bytes_eq m.name key) arc_value reached)

-- ---- import items

-- an element read from the list of a function's values is the value at the element of the original list with the same index
pub item_home : {X : Type 0} (f : X → Option ℕ) (xs : List X) (i : ℕ) (o : Option (Option ℕ)) (p : Option ℕ) → o ≡ slice_get (map f xs) i → o ≡ Some p → p ≡ option_and_then f (slice_get xs i)
item_home {X} f xs i o p e is = at (slice_get xs i) (sym is ∙ e ∙ slice_get-map f xs i)
  where
    at : (x : Option X) → Some p ≡ option_map f x → p ≡ option_and_then f x
    at None h = cc
    at (Some x) h = cc

pub no_item : {X : Type 0} (f : X → Option ℕ) (xs : List X) (i : ℕ) (o : Option (Option ℕ)) → o ≡ slice_get (map f xs) i → o ≡ None → None ≡ option_and_then f (slice_get xs i)
no_item {X} f xs i o e is = at (slice_get xs i) (sym is ∙ e ∙ slice_get-map f xs i)
  where
    at : (x : Option X) → None ≡ option_map f x → None ≡ option_and_then f x
    at None h = refl
    at (Some x) h = cc

-- the list of a function's values after one more element
pub mapped_more : {X Y : Type 0} (f : X → Y) (xs : List X) (i : ℕ) (d : X) (ys : List Y) (y : Y) → i < length xs → ys ≡ map f (take i xs) → y ≡ f (get_or xs i d) → ys ++ y ∷ [] ≡ map f (take (i + 1) xs)
mapped_more f xs i d ys y l e is = rw (e, is) (sym (ap (map f) (take_more xs i d l) ∙ map_push f (take i xs) (get_or xs i d)))
