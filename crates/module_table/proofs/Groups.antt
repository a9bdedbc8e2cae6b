-- The entries with one key, between those with smaller keys and those with greater ones.
use Rattle.std.proofs.Common.{◌≡◌, ℕ, suc, ◌+◌, ◌<◌, ◌≤◌, Bool, true, false, List, [], ◌∷◌, ◌++◌, length, get_or, take, drop, refl, sym, ap, ap₂, ◌∙◌, append-nil, arith, length-drop}
use Rattle.std.specs.Prelude.{nat_eq, nat_lt, nat_le}
use Rattle.std.specs.List.{filter, AllWithin}
use Rattle.std.specs.List.Sorted.{IsNonDecreasingBy}
use Rattle.std.proofs.lemmas.List.{take-append-drop, get_or-take, get_or-drop, length-take-le}
use Rattle.std.proofs.lemmas.List.Elements.{filter-append}
use Rattle.std.proofs.lemmas.Bool.{cases_eq}
use Rattle.std.proofs.lemmas.Bool.Decides.{nat_tests}
use Rattle.std.proofs.lemmas.Option.{slice_get-get_or}
use Rattle.std.proofs.Common.{inl, inr}
use Rattle.module_table.specs.Order.{IsMonotoneBy}

filter_none : {X : Type 0} (p : X → Bool) (xs : List X) → ((k : ℕ) (d : X) → k < length xs → p (get_or xs k d) ≡ false) → filter p xs ≡ []
filter_none p [] h = refl
filter_none p (x ∷ xs) h = rw (h 0 x (omega arith)) (filter_none p xs (λ k d l. h (suc k) d (omega (arith, l))))

filter_every : {X : Type 0} (p : X → Bool) (xs : List X) → ((k : ℕ) (d : X) → k < length xs → p (get_or xs k d) ≡ true) → filter p xs ≡ xs
filter_every p [] h = refl
filter_every p (x ∷ xs) h = rw (h 0 x (omega arith)) (ap (λ (ys : List _). x ∷ ys) (filter_every p xs (λ k d l. h (suc k) d (omega (arith, l)))))

module _ {X : Type 0} (n : X → ℕ) where
  pub rising : (xs : List X) → IsMonotoneBy n xs → IsNonDecreasingBy n xs
  rising xs r = λ i j d le h. elim (cases_eq i j) [
    | inl e ↦ rw e (omega arith)
    | inr ne ↦ r i j (get_or xs i d) (get_or xs j d) (omega arith) (slice_get-get_or xs i d (omega arith)) (slice_get-get_or xs j d h)
  ]

  lesser : (a g : ℕ) → nat_lt a g ≡ true → nat_eq a g ≡ false
  lesser a g e = grind (arith, nat_tests)

  equal : (a g : ℕ) → nat_lt a g ≡ false → nat_le a g ≡ true → nat_eq a g ≡ true
  equal a g e f = grind (arith, nat_tests)

  greater : (a g : ℕ) → nat_le a g ≡ false → nat_eq a g ≡ false
  greater a g e = grind (arith, nat_tests)

  of_rest : (rest : List X) (g m : ℕ) → m ≤ length rest → AllWithin (λ y. nat_lt (n y) g ≡ false) rest 0 (length rest) →
      AllWithin (λ y. nat_le (n y) g ≡ true) rest 0 m → AllWithin (λ y. nat_le (n y) g ≡ false) rest m (length rest) →
      filter (λ y. nat_eq (n y) g) rest ≡ take m rest
  of_rest rest g m h least these others =
      let p : X → Bool = λ y. nat_eq (n y) g in
      ap (λ (ys : List X). filter p ys) (sym (take-append-drop m rest))
      ∙ filter-append p (take m rest) (drop m rest)
      ∙ ap₂ (λ (ys zs : List X). ys ++ zs)
      (filter_every p (take m rest) (λ k d l.
      let kl : k < m = omega (arith, length-take-le m rest h) in
      ap p (get_or-take m rest k d kl) ∙ equal (n (get_or rest k d)) g (least k d (omega arith) (omega arith)) (these k d (omega arith) kl)))
      (filter_none p (drop m rest) (λ k d l.
      let kl : m + k < length rest = omega (arith, length-drop m rest) in
      ap p (get_or-drop m rest k d) ∙ greater (n (get_or rest (m + k) d)) g (others (m + k) d (omega arith) kl)))
      ∙ append-nil (take m rest)

  pub grouped : (xs rest : List X) (g i m : ℕ) → rest ≡ drop i xs → i ≤ length xs → m ≤ length rest →
      AllWithin (λ y. nat_lt (n y) g ≡ true) xs 0 i → AllWithin (λ y. nat_lt (n y) g ≡ false) xs i (length xs) →
      AllWithin (λ y. nat_le (n y) g ≡ true) rest 0 m → AllWithin (λ y. nat_le (n y) g ≡ false) rest m (length rest) →
      take m rest ≡ filter (λ y. nat_eq (n y) g) xs
  grouped xs rest g i m e hi hm before from these others =
      let p : X → Bool = λ y. nat_eq (n y) g in
      sym (ap (λ (ys : List X). filter p ys) (sym (take-append-drop i xs))
      ∙ filter-append p (take i xs) (drop i xs)
      ∙ ap₂ (λ (ys zs : List X). ys ++ zs)
      (filter_none p (take i xs) (λ k d l.
      let kl : k < i = omega (arith, length-take-le i xs hi) in
      ap p (get_or-take i xs k d kl) ∙ lesser (n (get_or xs k d)) g (before k d (omega arith) kl)))
      (ap (λ (ys : List X). filter p ys) (sym e) ∙ of_rest rest g m hm (λ k d z l.
      let kl : i + k < length xs = omega (arith, ap length e, length-drop i xs) in
      ap (λ (ys : List X). nat_lt (n (get_or ys k d)) g) e ∙ ap (λ y. nat_lt (n y) g) (get_or-drop i xs k d) ∙ from (i + k) d (omega arith) kl) these others))
