-- Flags of names that are written, set designator by designator.
use Rattle.std.proofs.Common.{◌≡◌, ℕ, zero, suc, ◌<◌, ◌≤◌, ◌==◌, ◌||◌, inl, inr, List, [], ◌∷◌, length, drop, set, replicate, Bool, true, false, Option, Some, None, refl, sym, ap, ◌∙◌, subst, arith, eq-eqb, length-set, get_or}
use Rattle.std.specs.Prelude.{slice_get}
use Rattle.std.specs.List.{list_any}
use Rattle.std.proofs.lemmas.Bool.{cases_eq, cases_lt}
use Rattle.std.proofs.lemmas.Option.{slice_get_within, slice_get-get_or}
use Rattle.ob_targets.specs.SyntaxPosition.{is_token}
use Rattle.ob_resolve.specs.Positions.{with_flag}
use Rattle.ob_resolve.proofs.Marks.{not_same, slice_get-set_same, slice_get-set_other}

pub drop_past : {X : Type 0} (xs : List X) (i : ℕ) → length xs ≤ i → drop i xs ≡ []
drop_past [] zero l = refl
drop_past [] (suc i) l = refl
drop_past (x ∷ xs) zero l = absurd (omega arith)
drop_past (x ∷ xs) (suc i) l = drop_past xs i (omega arith)

module _ {X : Type 0} (has : ℕ → X → Bool) (all : List X) (count : ℕ) where
  -- the flags are set that the processed designators set
  pub record AreWritten (rest : List X) (positions : List Bool) : Type 0 where
    pub as_many : length positions ≡ count
    pub each : (k : ℕ) (b : Bool) → slice_get positions k ≡ Some b → (b || list_any (has k) rest) ≡ list_any (has k) all

  always_false : (n k : ℕ) (b : Bool) → slice_get (replicate n false) k ≡ Some b → b ≡ false
  always_false zero k b e = cc
  always_false (suc n) zero b e = cc
  always_false (suc n) (suc k) b e = always_false n k b e

  pub begun : (positions : List Bool) → length positions ≡ count → positions ≡ replicate count false → AreWritten all positions
  begun positions many are = record {
    as_many = many;
    each = λ k b e. ap (λ x. x || list_any (has k) all) (always_false count k b (ap (λ m. slice_get m k) (sym are) ∙ e));
  }

  -- a designator that sets no flag
  pub passed : (x : X) (rest : List X) (positions : List Bool) → ((k : ℕ) → k < count → has k x ≡ false) → AreWritten (x ∷ rest) positions → AreWritten rest positions
  passed x rest positions nowhere m = record {
    as_many = m.as_many;
    each = λ k b e.
        let within : k < length positions = slice_get_within positions k b e in
        let below : k < count = subst (λ n. k < n) m.as_many within in
        ap (λ h. b || (h || list_any (has k) rest)) (sym (nowhere k below)) ∙ m.each k b e;
  }

  or_true : (b r : Bool) → (b || (true || r)) ≡ true
  or_true true r = refl
  or_true false r = refl

  or_false : (b : Bool) → (b || false) ≡ b
  or_false true = refl
  or_false false = refl

  -- a designator that sets the flag of this token
  pub written : (x : X) (rest : List X) (positions : List Bool) (n : ℕ) → ((k : ℕ) → has k x ≡ (n == k)) → n < count → AreWritten (x ∷ rest) positions → AreWritten rest (set positions n true)
  written x rest positions n alone l m =
      let room : n < length positions = subst (λ c. n < c) (sym m.as_many) l in
      let full : list_any (has n) all ≡ true = sym (m.each n _ (slice_get-get_or positions n false room)) ∙ ap (λ h. get_or positions n false || (h || list_any (has n) rest)) (alone n ∙ eq-eqb n n refl) ∙ or_true (get_or positions n false) (list_any (has n) rest) in
      record {
        as_many = length-set positions n true ∙ m.as_many;
        each = λ k b e. elim (cases_eq k n) [
          | inl same ↦ (
              let here : slice_get (set positions n true) n ≡ Some b = rw same at e in
              let top : slice_get (set positions n true) n ≡ Some true = slice_get-set_same positions n true room in
              let is : b ≡ true = cc in
              ap (λ x. x || list_any (has k) rest) is ∙ sym full ∙ ap (λ j. list_any (has j) all) (sym same))
          | inr other ↦ (
              let before : slice_get positions k ≡ Some b = sym (slice_get-set_other positions n k true other) ∙ e in
              ap (λ h. b || (h || list_any (has k) rest)) (sym (alone k ∙ not_same n k (λ e'. other (sym e')))) ∙ m.each k b before)
        ];
      }

  set_past : (positions : List Bool) (n : ℕ) → length positions ≤ n → set positions n true ≡ positions
  set_past [] n l = refl
  set_past (b ∷ positions) zero l = absurd (omega arith)
  set_past (b ∷ positions) (suc n) l = ap (λ m. b ∷ m) (set_past positions n (omega arith))

  -- a designator, with the token whose flag it sets, if any
  pub stepped : (x : X) (rest : List X) (positions : List Bool) (name : Option ℕ) → ((k : ℕ) → has k x ≡ is_token k name) → AreWritten (x ∷ rest) positions → AreWritten rest (with_flag name positions)
  stepped x rest positions None has_none m = passed x rest positions (λ k l. has_none k) m
  stepped x rest positions (Some n) alone m = elim (cases_lt n count) [
    | inl within ↦ written x rest positions n alone within m
    | inr past ↦ (
        let room : length positions ≤ n = omega (arith, m.as_many) in
        rw (set_past positions n room) (passed x rest positions (λ k l. alone k ∙ not_same n k (omega arith)) m))
  ]

  -- the flags after all designators
  pub done : (positions : List Bool) → AreWritten [] positions → (k : ℕ) → k < count → slice_get positions k ≡ Some (list_any (has k) all)
  done positions m k l =
      let there = slice_get-get_or positions k false (subst (λ c. k < c) (sym m.as_many) l) in
      there ∙ ap Some (sym (or_false (get_or positions k false)) ∙ m.each k _ there)
