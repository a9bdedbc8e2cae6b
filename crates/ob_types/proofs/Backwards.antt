-- A pass over entries from the last to the first.
use Rattle.std.proofs.Common.{◌≡◌, ℕ, ◌+◌, ◌<◌, List, ◌∷◌, length, drop, get_or, Bool, true, false, cond, Option, Some, refl, sym, ap, ◌∙◌, add-one, drop-cons}
use Rattle.std.specs.Prelude.{find}
use Rattle.std.specs.Option.{option_map}

module _ {X : Type 0} (p : X → Bool) (xs : List X) (m n : ℕ) (d : X) (next : n ≡ m + 1) (within : m < length xs) where
  opened : drop m xs ≡ get_or xs m d ∷ drop n xs
  opened = drop-cons xs m d within ∙ ap (λ (i : ℕ). get_or xs m d ∷ drop i xs) (sym (next ∙ add-one m))

  pub find_before : find p (drop m xs) ≡ cond (p (get_or xs m d)) (Some (get_or xs m d)) (find p (drop n xs))
  find_before = ap (find p) opened

map_cond : {X Y : Type 0} (f : X → Y) (b : Bool) (x : X) (o : Option X) → option_map f (cond b (Some x) o) ≡ cond b (Some (f x)) (option_map f o)
map_cond f true x o = refl
map_cond f false x o = refl

-- one more entry
pub row_before : {X : Type 0} (p : X → Bool) (f : X → ℕ) (xs : List X) (m n : ℕ) (d : X) (old new : Option ℕ) → n ≡ m + 1 → m < length xs → new ≡ cond (p (get_or xs m d)) (Some (f (get_or xs m d))) old
    → old ≡ option_map f (find p (drop n xs)) → new ≡ option_map f (find p (drop m xs))
row_before p f xs m n d old new next within more before =
    more ∙ ap (λ (o : Option ℕ). cond (p (get_or xs m d)) (Some (f (get_or xs m d))) o) before ∙ sym (map_cond f (p (get_or xs m d)) (get_or xs m d) (find p (drop n xs)))
    ∙ ap (option_map f) (sym (find_before p xs m n d next within))
