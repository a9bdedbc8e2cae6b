-- One byte further in lines and columns.
use Rattle.std.proofs.Common.{◌≡◌, ℕ, zero, suc, ◌+◌, ◌-◌, ◌≤◌, ◌<◌, ◌⊎◌, Bool, true, false, cond, List, [], ◌∷◌, ◌++◌, refl, sym, ap, ◌∙◌, inl, inr, add-zero, add-one, arith}
use Rattle.std.specs.Prelude.{count_by}
use Rattle.std.specs.List.{range_with_len}
use Rattle.std.proofs.lemmas.Bool.{cases_eq}
use Rattle.std.proofs.lemmas.List.Sums.{sum_by_push}
use Rattle.ob_scan.specs.Position.{ends_line, IsPosition}

-- the line at a place begins at this offset
pub record AtLine (bytes : List ℕ) (at line first : ℕ) : Type 0 where
  pub room : line ≤ at
  pub within : first ≤ at
  pub count : line ≡ count_by (ends_line bytes) (range_with_len 0 at)
  pub begins : (first ≡ 0) ⊎ ((last : ℕ) × (last + 1 ≡ first) × (ends_line bytes last ≡ true))
  pub whole : (k : ℕ) → first ≤ k → k < at → ends_line bytes k ≡ false

pub range_last : (a n : ℕ) → range_with_len a (suc n) ≡ range_with_len a n ++ (a + n) ∷ []
range_last a zero = rw add-zero refl
range_last a (suc n) =
    let next : (a + 1) + n ≡ a + suc n = omega arith in
    let e : range_with_len (a + 1) (suc n) ≡ range_with_len (a + 1) n ++ (a + suc n) ∷ [] = rw next at (range_last (a + 1) n) in
    ap (λ (x : List ℕ). a ∷ x) e

count_last : (p : ℕ → Bool) (n : ℕ) → count_by p (range_with_len 0 (suc n)) ≡ count_by p (range_with_len 0 n) + cond (p n) 1 0
count_last p n =
    let zero_add : 0 + n ≡ n = omega arith in
    let e : range_with_len 0 (suc n) ≡ range_with_len 0 n ++ n ∷ [] = rw zero_add at (range_last 0 n) in
    ap (count_by p) e ∙ sum_by_push (λ x. cond (p x) 1 0) (range_with_len 0 n) n

count_more : (bytes : List ℕ) (at : ℕ) (b : Bool) → ends_line bytes at ≡ b → count_by (ends_line bytes) (range_with_len 0 (at + 1)) ≡ count_by (ends_line bytes) (range_with_len 0 at) + cond b 1 0
count_more bytes at b e =
    rw add-one (count_last (ends_line bytes) at ∙ ap (λ (x : Bool). count_by (ends_line bytes) (range_with_len 0 at) + cond x 1 0) e)

pub line_ends : (bytes : List ℕ) (at line first : ℕ) → AtLine bytes at line first → ends_line bytes at ≡ true → AtLine bytes (at + 1) (line + 1) (at + 1)
line_ends bytes at line first l e =
    record {
      room = omega (arith, l.room);
      within = omega arith;
      count = ap (λ (n : ℕ). n + 1) l.count ∙ sym (count_more bytes at true e);
      begins = inr (at, refl, e);
      whole = λ k le lt. absurd (omega arith);
    }

pub line_goes : (bytes : List ℕ) (at line first : ℕ) → AtLine bytes at line first → ends_line bytes at ≡ false → AtLine bytes (at + 1) line first
line_goes bytes at line first l e =
    record {
      room = omega (arith, l.room);
      within = omega (arith, l.within);
      count = l.count ∙ (sym (add-zero _) ∙ sym (count_more bytes at false e));
      begins = l.begins;
      whole = λ k le lt. elim (cases_eq k at) [
        | inl same ↦ rw same e
        | inr differs ↦ l.whole k le (omega arith)
      ];
    }

pub line_is : (bytes : List ℕ) (at line first : ℕ) → AtLine bytes at line first → IsPosition bytes at line (at - first)
line_is bytes at line first l =
    record { line_is = l.count; first = first; column_is = omega (arith, l.within); begins = l.begins; whole = l.whole }
