-- What is written of the members of a list that pass a test.
use Rattle.std.proofs.Common.{◌≡◌, ℕ, ◌+◌, ◌<◌, ◌≤◌, Bool, cond, List, [], ◌∷◌, ◌++◌, length, get_or, take, drop, refl, sym, ap, ◌∙◌, arith, append_assoc, append-nil, inl, inr}
use Rattle.std.specs.Prelude.{filter}
use Rattle.std.specs.List.{flat_map, range_with_len}
use Rattle.std.proofs.lemmas.Bool.{cases_Bool}
use Rattle.std.proofs.lemmas.Grind.{flat_map-append}
use Rattle.std.proofs.lemmas.List.{map-id, take-append-drop, take_more}
use Rattle.std.proofs.lemmas.List.Elements.{filter-append}
use Rattle.std.proofs.lemmas.List.FromFn.{map-range_with_len_more, take-map-range_with_len}

module _ {X A : Type 0} (line : X → List A) (passes : X → Bool) where
  -- what is written of those that pass
  abbrev pub lines : List X → List A
  lines xs = flat_map line (filter passes xs)

  -- and of one more
  pub one_more : (xs : List X) (x : X) → lines (xs ++ x ∷ []) ≡ lines xs ++ cond (passes x) (line x) []
  one_more [] x = elim (cases_Bool (passes x)) [ inl t ↦ rw t (append-nil (line x)) | inr f ↦ rw f refl ]
  one_more (y ∷ ys) x = elim (cases_Bool (passes y)) [
    | inl t ↦ rw t (ap (λ (v : List A). line y ++ v) (one_more ys x) ∙ sym (append_assoc (line y) (lines ys) (cond (passes x) (line x) [])))
    | inr f ↦ rw f (one_more ys x)
  ]

  -- and of the first members
  pub one_taken : (xs : List X) (k : ℕ) (d : X) → k < length xs → lines (take (k + 1) xs) ≡ lines (take k xs) ++ cond (passes (get_or xs k d)) (line (get_or xs k d)) []
  one_taken xs k d lt = ap lines (take_more xs k d lt) ∙ one_more (take k xs) (get_or xs k d)

  lines_of_both : (xs ys : List X) → lines (xs ++ ys) ≡ lines xs ++ lines ys
  lines_of_both xs ys = ap (flat_map line) (filter-append passes xs ys) ∙ flat_map-append line (filter passes xs) (filter passes ys)

  -- of the first members and of those after them
  pub lines_split : (xs : List X) (k : ℕ) → lines xs ≡ lines (take k xs) ++ lines (drop k xs)
  lines_split xs k = ap lines (sym (take-append-drop k xs)) ∙ lines_of_both (take k xs) (drop k xs)

  -- of the first members, of the next, and of those after it
  pub one_around : (xs : List X) (k : ℕ) (d : X) → k < length xs → lines xs ≡ (lines (take k xs) ++ cond (passes (get_or xs k d)) (line (get_or xs k d)) []) ++ lines (drop (k + 1) xs)
  one_around xs k d lt = lines_split xs (k + 1) ∙ ap (λ (v : List A). v ++ lines (drop (k + 1) xs)) (one_taken xs k d lt)

range_more : (n : ℕ) → range_with_len 0 (n + 1) ≡ range_with_len 0 n ++ n ∷ []
range_more n =
    sym (map-id (range_with_len 0 (n + 1))) ∙ map-range_with_len_more (λ x. x) 0 n n (omega arith) ∙ ap (λ (v : List ℕ). v ++ n ∷ []) (map-id (range_with_len 0 n))

-- and of the first numbers
pub one_counted : {A : Type 0} (line : ℕ → List A) (passes : ℕ → Bool) (n : ℕ) → lines line passes (range_with_len 0 (n + 1)) ≡ lines line passes (range_with_len 0 n) ++ cond (passes n) (line n) []
one_counted line passes n = ap (lines line passes) (range_more n) ∙ one_more line passes (range_with_len 0 n) n

range_taken : (n k : ℕ) → k ≤ n → take k (range_with_len 0 n) ≡ range_with_len 0 k
range_taken n k le = ap (take k) (sym (map-id (range_with_len 0 n))) ∙ take-map-range_with_len (λ x. x) 0 n k le ∙ map-id (range_with_len 0 k)

-- of the first numbers, of the next, and of those after it
pub number_around : {A : Type 0} (line : ℕ → List A) (passes : ℕ → Bool) (n k : ℕ) → k < n
    → lines line passes (range_with_len 0 n) ≡ (lines line passes (range_with_len 0 k) ++ cond (passes k) (line k) []) ++ lines line passes (drop (k + 1) (range_with_len 0 n))
number_around {A} line passes n k lt =
    lines_split line passes (range_with_len 0 n) (k + 1)
    ∙ ap (λ (v : List A). v ++ lines line passes (drop (k + 1) (range_with_len 0 n))) (ap (lines line passes) (range_taken n (k + 1) (omega arith)) ∙ one_counted line passes k)
