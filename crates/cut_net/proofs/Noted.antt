-- Names in order of first occurrence, by their bytes.
use Rattle.std.proofs.Common.{◌≡◌, ℕ, ◌<◌, true, List, [], length, get_or, Some, refl, sym, ap, ◌∙◌, arith, inl, inr}
use Rattle.std.specs.Prelude.{String}
use Rattle.std.specs.List.{list_any, position}
use Rattle.std.specs.Prelude.{slice_get}
use Rattle.std.specs.Str.{bytes_eq}
use Rattle.std.specs.String.{string_bytes, string_eq}
use Rattle.std.proofs.lemmas.Bool.{cases_Bool}
use Rattle.std.proofs.lemmas.List.{map_push, get_or-map, length-map}
use Rattle.std.proofs.lemmas.List.Folds.{list_any_at}
use Rattle.std.proofs.lemmas.List.Quantifiers.{position-Some}
use Rattle.std.proofs.lemmas.Option.{slice_get_within, get_or_from_slice_get}
use Rattle.std.proofs.lemmas.Slice.Eq.{bytes_eq-Decides}
use Rattle.indexmap.specs.IndexSet.{insert_key}
use Rattle.digraph.proofs.Names.{any_text, position-map}
use Rattle.cut_net.specs.Network.{texts}
use Rattle.cut_net.specs.NetReading.{with_name}

module _ {Z : Type 0} where
  pub texts_noted : (names : List (String Z)) (k : String Z) (name : List ℕ) → string_bytes k ≡ name → texts (insert_key string_eq names k) ≡ with_name (texts names) name
  texts_noted names k name e =
      elim (cases_Bool (list_any (λ x. bytes_eq (string_bytes k) (string_bytes x)) names)) [
        | inl present ↦ rw (← e, ← any_text (string_bytes k) names, present) refl
        | inr new ↦ rw (← e, ← any_text (string_bytes k) names, new) (map_push string_bytes names k)
      ]

  -- the key at an index, by its bytes
  pub place_noted : (names : List (String Z)) (value : String Z) (name : List ℕ) (at : ℕ) → string_bytes value ≡ name → (k : String Z) × (slice_get names at ≡ Some k) × (string_eq value k ≡ true)
      → (at < length (texts names)) × (get_or (texts names) at [] ≡ name)
  place_noted names value name at e (k, present, same) =
      let lt : at < length names = slice_get_within names at k present in
      let long = length-map names string_bytes in
      let here : get_or names at k ≡ k = get_or_from_slice_get names at k k present in
      let equal : string_bytes value ≡ string_bytes k = (bytes_eq-Decides (string_bytes value) (string_bytes k)).0 same in
      (omega arith, get_or-map string_bytes names at k [] lt ∙ ap string_bytes here ∙ sym equal ∙ e)

  -- a name that the list has
  pub found_noted : (names : List (String Z)) (name : List ℕ) → list_any (λ x. bytes_eq name (string_bytes x)) names ≡ true → texts names ≡ with_name (texts names) name
  found_noted names name present = sym (rw (← any_text name names, present) refl)

  pub found_place : (names : List (String Z)) (name : List ℕ) (at : ℕ) → position (λ x. bytes_eq name (string_bytes x)) names ≡ Some at → get_or (texts names) at [] ≡ name
  found_place names name at is =
      let found = position-Some (bytes_eq name) (texts names) at [] (position-map (bytes_eq name) string_bytes names ∙ is) in
      sym ((bytes_eq-Decides name (get_or (texts names) at [])).0 found.1)

-- a name at an index
pub there_noted : (names : List (List ℕ)) (name : List ℕ) (at : ℕ) → at < length names → get_or names at [] ≡ name → names ≡ with_name names name
there_noted names name at within is = sym (rw (list_any_at (bytes_eq name) names at [] within ((bytes_eq-Decides name (get_or names at [])).1 (sym is))) refl)
