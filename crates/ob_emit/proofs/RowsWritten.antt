-- The records of occurrences and symbols, one after another.
use Rattle.std.proofs.Common.{◌≡◌, ℕ, ◌+◌, ◌<◌, ◌≤◌, List, [], ◌∷◌, ◌++◌, length, map, take, get_or, Option, Some, None, refl, sym, ap, ◌∙◌, append_assoc}
use Rattle.std.specs.List.{filter_map}
use Rattle.std.specs.Option.{option_to_list}
use Rattle.std.proofs.lemmas.Grind.{flat_map-append}
use Rattle.std.proofs.lemmas.List.{map-append, take_all, take_more}
use Rattle.std.proofs.lemmas.List.Elements.{filter_map-append}
use Rattle.proto_wire.specs.Writing.{payload_field, payload_fields, spelled, spelled_fields}

module _ {X Y : Type 0} (k : ℕ) (payload : Y → List ℕ) (h : X → Option Y) where
  -- the records of the references
  abbrev pub records_of : List Y → List ℕ
  records_of ys = spelled_fields (payload_fields k (map payload ys))

  records-append : (a b : List Y) → records_of (a ++ b) ≡ records_of a ++ records_of b
  records-append a b =
      ap (λ (zs : List (List ℕ)). spelled_fields (payload_fields k zs)) (map-append payload a b)
      ∙ ap spelled_fields (map-append (payload_field k) (map payload a) (map payload b))
      ∙ flat_map-append spelled (payload_fields k (map payload a)) (payload_fields k (map payload b))

  one_row : (x : X) (o : Option Y) → h x ≡ o → filter_map h (x ∷ []) ≡ option_to_list o
  one_row x None e = rw e refl
  one_row x (Some y) e = rw e refl

  -- the record of one more reference is appended, if it has one
  pub put_row : (xs : List X) (n : ℕ) (d : X) (first out new : List ℕ) → n < length xs → out ≡ first ++ records_of (filter_map h (take n xs))
      → new ≡ out ++ records_of (option_to_list (h (get_or xs n d))) → new ≡ first ++ records_of (filter_map h (take (n + 1) xs))
  put_row xs n d first out new l before more =
      let x = get_or xs n d in
      let told : filter_map h (take (n + 1) xs) ≡ filter_map h (take n xs) ++ option_to_list (h x) =
      ap (filter_map h) (take_more xs n d l) ∙ filter_map-append h (take n xs) (x ∷ []) ∙ ap (λ (zs : List Y). filter_map h (take n xs) ++ zs) (one_row x (h x) refl) in
      more
      ∙ ap (λ (bytes : List ℕ). bytes ++ records_of (option_to_list (h x))) before
      ∙ append_assoc first (records_of (filter_map h (take n xs))) (records_of (option_to_list (h x)))
      ∙ ap (λ (bytes : List ℕ). first ++ bytes) (sym (ap records_of told ∙ records-append (filter_map h (take n xs)) (option_to_list (h x))))

  -- all references
  pub rows_put : (xs : List X) (n : ℕ) (first out : List ℕ) → length xs ≤ n → out ≡ first ++ records_of (filter_map h (take n xs)) → out ≡ first ++ records_of (filter_map h xs)
  rows_put xs n first out l e = e ∙ ap (λ (ys : List X). first ++ records_of (filter_map h ys)) (take_all n xs l)
