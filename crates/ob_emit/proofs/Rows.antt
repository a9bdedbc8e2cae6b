-- The occurrences and symbols of a document, one after another.
use Rattle.std.proofs.Common.{◌≡◌, ℕ, ◌+◌, ◌<◌, ◌≤◌, List, [], ◌∷◌, ◌++◌, length, map, take, get_or, Option, Some, None, refl, sym, ap, ◌∙◌, append-nil}
use Rattle.std.specs.List.{filter_map}
use Rattle.std.specs.Option.{option_map}
use Rattle.std.proofs.lemmas.List.{map_push, take_all, take_more}
use Rattle.std.proofs.lemmas.List.Elements.{filter_map-append}
use Rattle.std.proofs.lemmas.Option.{get_or_from_slice_get, slice_get-get_or}
use Rattle.ob_view.specs.declared.target.Reference.{Reference}
use Rattle.ob_view.specs.declared.target.Target.TheVariants as targets
use Rattle.ob_view.specs.World.{World, text}
use Rattle.ob_emit.specs.Named.{ReferencesAreIdentifiers, IsName}

pub external_named : (w : World) (refs : List Reference) → ReferencesAreIdentifiers w refs → (i : ℕ) (d : Reference) → i < length refs → (item name : ℕ) → (get_or refs i d).target ≡ targets.External item name → IsName (text w name)
external_named w refs names i d l = names.external (get_or refs i d) (i, l, get_or_from_slice_get refs i (get_or refs i d) (get_or refs i d) (slice_get-get_or refs i d l))

module _ {X Y Z : Type 0} (f : Y → Z) (h : X → Option Z) (xs : List X) (n : ℕ) (d : X) (ys : List Y) (l : n < length xs) (before : map f ys ≡ filter_map h (take n xs)) where
  told_more : filter_map h (take (n + 1) xs) ≡ filter_map h (take n xs) ++ filter_map h (get_or xs n d ∷ [])
  told_more = ap (filter_map h) (take_more xs n d l) ∙ filter_map-append h (take n xs) (get_or xs n d ∷ [])

  -- one more
  pub row_more : (y : Y) (o : Option Y) → option_map f o ≡ h (get_or xs n d) → o ≡ Some y → map f (ys ++ y ∷ []) ≡ filter_map h (take (n + 1) xs)
  row_more y o e is =
      let one : h (get_or xs n d) ≡ Some (f y) = sym e ∙ ap (option_map f) is in
      let last : filter_map h (get_or xs n d ∷ []) ≡ f y ∷ [] = rw one refl in
      map_push f ys y ∙ (ap (λ (zs : List Z). zs ++ f y ∷ []) before ∙ (ap (λ (zs : List Z). filter_map h (take n xs) ++ zs) (sym last) ∙ sym told_more))

  -- none
  pub no_row : (o : Option Y) → option_map f o ≡ h (get_or xs n d) → o ≡ None → map f ys ≡ filter_map h (take (n + 1) xs)
  no_row o e is =
      let one : h (get_or xs n d) ≡ None = sym e ∙ ap (option_map f) is in
      let last : filter_map h (get_or xs n d ∷ []) ≡ [] = rw one refl in
      before ∙ (sym (append-nil (filter_map h (take n xs))) ∙ (ap (λ (zs : List Z). filter_map h (take n xs) ++ zs) (sym last) ∙ sym told_more))

-- all of them
pub rows_done : {X Y Z : Type 0} (f : Y → Z) (h : X → Option Z) (xs : List X) (n : ℕ) (ys : List Y) → length xs ≤ n → map f ys ≡ filter_map h (take n xs) → map f ys ≡ filter_map h xs
rows_done f h xs n ys l e = e ∙ ap (filter_map h) (take_all n xs l)
