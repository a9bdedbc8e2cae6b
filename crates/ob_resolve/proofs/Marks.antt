-- Positions that are set entry by entry, from the last entry to the first.
use Rattle.std.proofs.Common.{◌≡◌, ℕ, zero, suc, ◌<◌, ◌≤◌, ◌+◌, ◌==◌, inl, inr, List, [], ◌∷◌, length, get_or, set, drop, ◌-◌, Bool, true, false, Some, cond, refl, sym, ap, ◌∙◌, subst, arith, eq-eqb, length-set}
use Rattle.std.specs.Prelude.{slice_get}
use Rattle.std.specs.List.{position_from}
use Rattle.std.specs.Option.{option_map_or}
use Rattle.std.proofs.lemmas.Bool.{cases_eq}
use Rattle.std.proofs.lemmas.Bool.Decides.{nat_tests}
use Rattle.std.proofs.lemmas.Iterator.Adapters.{position_from-zero}
use Rattle.std.proofs.lemmas.List.{drop_more}
use Rattle.std.proofs.lemmas.Option.{slice_get_within}
use Rattle.ob_targets.specs.declared.syntax_position.SyntaxPosition.{SyntaxPosition}
use Rattle.ob_targets.specs.SyntaxPosition.{is_token}
use Rattle.ob_resolve.specs.Positions.{ArePositionsSet}

pub not_same : (n k : ℕ) → (n ≡ k → ⊥) → n == k ≡ false
not_same n k ne = grind (arith, nat_tests)

pub slice_get-set_same : {X : Type 0} (xs : List X) (i : ℕ) (v : X) → i < length xs → slice_get (set xs i v) i ≡ Some v
slice_get-set_same [] i v l = absurd (omega arith)
slice_get-set_same (x ∷ xs) zero v l = refl
slice_get-set_same (x ∷ xs) (suc i) v l = slice_get-set_same xs i v (omega arith)

pub slice_get-set_other : {X : Type 0} (xs : List X) (i j : ℕ) (v : X) → (j ≡ i → ⊥) → slice_get (set xs i v) j ≡ slice_get xs j
slice_get-set_other [] i j v ne = refl
slice_get-set_other (x ∷ xs) zero zero v ne = absurd (ne refl)
slice_get-set_other (x ∷ xs) zero (suc j) v ne = refl
slice_get-set_other (x ∷ xs) (suc i) zero v ne = refl
slice_get-set_other (x ∷ xs) (suc i) (suc j) v ne = slice_get-set_other xs i j v (λ e. ne (ap suc e))

module _ {X : Type 0} (has : ℕ → X → Bool) (at : ℕ → SyntaxPosition) where
  -- the entries from this index on have set their positions
  pub record AreMarkedFrom (position : ℕ) (rows : List X) (old new : List SyntaxPosition) : Type 0 where
    pub as_many : length new ≡ length old
    pub each : (k : ℕ) (s : SyntaxPosition) → slice_get old k ≡ Some s → slice_get new k ≡ Some (option_map_or at (position_from (has k) position rows) s)

  pub unmarked : (position : ℕ) (old : List SyntaxPosition) → AreMarkedFrom position [] old old
  unmarked position old = record { as_many = refl; each = λ k s e. e }

  -- an entry without a token in the list
  pub marked_as_before : (position : ℕ) (row : X) (rest : List X) (old new : List SyntaxPosition) → ((k : ℕ) → k < length old → has k row ≡ false) →
      AreMarkedFrom (position + 1) rest old new → AreMarkedFrom position (row ∷ rest) old new
  marked_as_before position row rest old new nowhere m = record {
    as_many = m.as_many;
    each = λ k s e. m.each k s e ∙ ap (λ b. Some (option_map_or at (cond b (Some position) (position_from (has k) (position + 1) rest)) s)) (sym (nowhere k (slice_get_within old k s e)));
  }

  -- an entry with exactly this token
  pub marked_by_row : (position : ℕ) (row : X) (rest : List X) (old new : List SyntaxPosition) (n : ℕ) → ((k : ℕ) → has k row ≡ (n == k)) → n < length old →
      AreMarkedFrom (position + 1) rest old new → AreMarkedFrom position (row ∷ rest) old (set new n (at position))
  marked_by_row position row rest old new n alone l m =
      let told = λ (k : ℕ) (s : SyntaxPosition) (b : Bool). Some (option_map_or at (cond b (Some position) (position_from (has k) (position + 1) rest)) s) in
      let room : n < length new = rw m.as_many l in
      record {
        as_many = length-set new n (at position) ∙ m.as_many;
        each = λ k s e. elim (cases_eq k n) [
          | inl same ↦ (let is : has k row ≡ true = alone k ∙ eq-eqb n k (sym same) in rw same (slice_get-set_same new n (at position) room) ∙ ap (told k s) (sym is))
          | inr other ↦ (let is : has k row ≡ false = alone k ∙ not_same n k (λ e'. other (sym e')) in slice_get-set_other new n k (at position) other ∙ m.each k s e ∙ ap (told k s) (sym is))
        ];
      }

  -- the entry before this index
  row_before : (rows : List X) (position : ℕ) (row : X) → 0 < position → position ≤ length rows → row ≡ get_or rows (position - 1) row → drop (position - 1) rows ≡ row ∷ drop position rows
  row_before rows position row some within is =
      let next : position - 1 + 1 ≡ position = omega arith in
      drop_more rows (position - 1) row (omega arith) ∙ ap (λ x. x ∷ drop (position - 1 + 1) rows) (sym is) ∙ ap (λ p. row ∷ drop p rows) next

  pub step_as_before : (rows : List X) (position : ℕ) (row : X) (old new : List SyntaxPosition) → 0 < position → position ≤ length rows → row ≡ get_or rows (position - 1) row →
      ((k : ℕ) → k < length old → has k row ≡ false) → AreMarkedFrom position (drop position rows) old new → AreMarkedFrom (position - 1) (drop (position - 1) rows) old new
  step_as_before rows position row old new some within is nowhere m =
      let next : position ≡ position - 1 + 1 = omega arith in
      rw (row_before rows position row some within is) (marked_as_before (position - 1) row (drop position rows) old new nowhere (subst (λ p. AreMarkedFrom p (drop position rows) old new) next m))

  pub step_by_row : (rows : List X) (position : ℕ) (row : X) (old new : List SyntaxPosition) (n : ℕ) (set_positions : SyntaxPosition) → 0 < position → position ≤ length rows → row ≡ get_or rows (position - 1) row →
      ((k : ℕ) → has k row ≡ is_token k (Some n)) → n < length old → set_positions ≡ at (position - 1) →
      AreMarkedFrom position (drop position rows) old new → AreMarkedFrom (position - 1) (drop (position - 1) rows) old (set new n set_positions)
  step_by_row rows position row old new n set_positions some within is alone l made m =
      let next : position ≡ position - 1 + 1 = omega arith in
      rw (row_before rows position row some within is, made) (marked_by_row (position - 1) row (drop position rows) old new n alone l (subst (λ p. AreMarkedFrom p (drop position rows) old new) next m))

  -- a token after the last one has no element in the list
  pub beyond : (row : X) (old : List SyntaxPosition) (n : ℕ) → ((k : ℕ) → has k row ≡ is_token k (Some n)) → length old ≤ n → (k : ℕ) → k < length old → has k row ≡ false
  beyond row old n alone l k h = alone k ∙ not_same n k (omega arith)

  -- all entries have set their positions
  pub all_marked : (rows : List X) (old new : List SyntaxPosition) → AreMarkedFrom 0 rows old new → ArePositionsSet has at rows old new
  all_marked rows old new m k s e = m.each k s e ∙ ap (λ o. Some (option_map_or at o s)) (sym (position_from-zero (has k) rows))
