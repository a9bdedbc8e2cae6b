-- A split at a byte, and the concatenation of its two parts.
use Rattle.std.proofs.Common.{◌≡◌, ℕ, suc, ◌+◌, Bool, true, false, cond, eqb, eq-eqb, ltb, not, List, [], ◌∷◌, ◌++◌, length, take, drop, Option, Some, None, refl, sym, ap, ◌∙◌, arith, inl, inr}
use Rattle.std.specs.Prelude.{option_map}
use Rattle.std.specs.List.{position, prefix_len, list_all}
use Rattle.std.proofs.lemmas.Bool.{and_parts, cases_lt, eqb-true, lt-ltb, le-ltb, cases_Bool}
use Rattle.std.proofs.lemmas.Bool.Decides.{nat_tests}
use Rattle.texts.specs.Fields.{split_at_first, with_first}

-- the two parts before and after an index
abbrev around : List ℕ → Option ℕ → Option (List ℕ × List ℕ)
around bytes place = option_map (λ i. (take i bytes, drop (i + 1) bytes)) place

abbrev below : ℕ → ℕ → Option ℕ
below n len = cond (ltb n len) (Some n) None

step : (b n : ℕ) (bytes : List ℕ) → around (b ∷ bytes) (below (1 + n) (suc (length bytes))) ≡ option_map (with_first b) (around bytes (below n (length bytes)))
step b n bytes =
    let e : 1 + n ≡ suc n = omega arith in
    let f : suc n + 1 ≡ suc (n + 1) = omega arith in
    elim (cases_lt n (length bytes)) [
      | inl lt ↦ rw (e, lt-ltb (suc n) (suc (length bytes)) (omega arith), lt-ltb _ _ lt, f) refl
      | inr le ↦ rw (e, le-ltb (suc n) (suc (length bytes)) (omega arith), le-ltb _ _ le) refl
    ]

by_place : (stop : ℕ) (bytes : List ℕ) → around bytes (position (λ b. eqb b stop) bytes) ≡ split_at_first stop bytes
unfolding split_at_first
by_place stop [] = refl
by_place stop (b ∷ bytes) =
    elim (cases_Bool (eqb b stop)) [
      | inl stops ↦ rw (stops, lt-ltb 0 (suc (length bytes)) (omega arith)) refl
      | inr goes ↦ rw goes (step b (prefix_len (λ x. not (eqb x stop)) bytes) bytes ∙ ap (option_map (with_first b)) (by_place stop bytes))
    ]

pub cut_is : (stop : ℕ) (bytes : List ℕ) → split_at_first stop bytes ≡ option_map (λ i. (take i bytes, drop (i + 1) bytes)) (position (λ b. eqb b stop) bytes)
cut_is stop bytes = sym (by_place stop bytes)

-- none of the bytes is this one
abbrev pub without : ℕ → List ℕ → Bool
without stop bytes = list_all (λ b. not (eqb b stop)) bytes

abbrev pub some : {A : Type 0} → A → Option A
some x = Some x

pub some_is : {A : Type 0} (x y : A) → some x ≡ some y → x ≡ y
some_is x y e = cc

pub with_some : (b : ℕ) (o : Option (List ℕ × List ℕ)) (x : List ℕ × List ℕ) → option_map (with_first b) o ≡ Some x → (y : List ℕ × List ℕ) × (o ≡ Some y) × (with_first b y ≡ x)
with_some b None x e = absurd cc
with_some b (Some y) x e = (y, refl, cc)

pub cut_takes : (stop : ℕ) (bytes : List ℕ) (x : List ℕ × List ℕ) → split_at_first stop bytes ≡ Some x → bytes ≡ x.0 ++ stop ∷ x.1
unfolding split_at_first
cut_takes stop [] x e = absurd cc
cut_takes stop (b ∷ bytes) x e =
    elim (cases_Bool (eqb b stop)) [
      | inl stops ↦ let at : Some ([], bytes) ≡ Some x = rw stops at e in
          let pair : ([], bytes) ≡ x = some_is _ _ at in
          rw (← pair, eqb-true b stop stops) refl
      | inr goes ↦ let at : option_map (with_first b) (split_at_first stop bytes) ≡ Some x = rw goes at e in
          let p = with_some b (split_at_first stop bytes) x at in
          rw (← p.2) (ap (λ (t : List ℕ). b ∷ t) (cut_takes stop bytes p.0 p.1))
    ]

pub cut_again : (stop : ℕ) (front rest : List ℕ) → without stop front ≡ true → split_at_first stop (front ++ stop ∷ rest) ≡ Some (front, rest)
unfolding split_at_first
cut_again stop [] rest e = rw (eq-eqb stop stop refl) refl
cut_again stop (b ∷ front) rest e =
    let p = and_parts _ _ e in
    let no : eqb b stop ≡ false = grind (arith, nat_tests) in
    rw (no, cut_again stop front rest p.1) refl

pub cut_none : (stop : ℕ) (bytes : List ℕ) → without stop bytes ≡ true → split_at_first stop bytes ≡ None
unfolding split_at_first
cut_none stop [] e = refl
cut_none stop (b ∷ bytes) e =
    let p = and_parts _ _ e in
    let no : eqb b stop ≡ false = grind (arith, nat_tests) in
    rw (no, cut_none stop bytes p.1) refl
