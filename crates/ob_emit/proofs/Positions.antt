-- The line and the column of an offset are those of its position.
use Rattle.std.proofs.Common.{◌≡◌, ℕ, zero, suc, ◌+◌, ◌≤◌, ◌<◌, ◌⊎◌, Bool, true, false, List, length, refl, sym, ap, ◌∙◌, subst, inl, inr, arith, add-one, add-zero}
use Rattle.std.specs.Prelude.{if◌then◌else◌}
use Rattle.std.specs.List.{range_with_len}
use Rattle.std.proofs.lemmas.List.FromFn.{length-range_with_len}
use Rattle.std.proofs.lemmas.List.Sums.{count_by-le-length}
use Rattle.ob_scan.specs.Position.{ends_line, IsPosition}
use Rattle.ob_emit.specs.Documents.{column_of, line_number}

-- after a line end the column is 0
column_first : (bytes : List ℕ) (first : ℕ) → (first ≡ 0) ⊎ ((last : ℕ) × (last + 1 ≡ first) × (ends_line bytes last ≡ true)) → column_of bytes first ≡ 0
unfolding column_of
column_first bytes first (inl e) = rw e refl
column_first bytes first (inr (last, e, h)) =
    let s : suc last ≡ first = omega arith in
    let here : column_of bytes (suc last) ≡ 0 = rw h refl in
    subst (λ (n : ℕ). column_of bytes n ≡ 0) s here

-- one byte further that ends no line
column_next : (bytes : List ℕ) (offset : ℕ) → ends_line bytes offset ≡ false → column_of bytes (suc offset) ≡ column_of bytes offset + 1
unfolding column_of
column_next bytes offset h = rw h refl

column_behind : (bytes : List ℕ) (first c : ℕ) → column_of bytes first ≡ 0 → ((at : ℕ) → first ≤ at → at < first + c → ends_line bytes at ≡ false) → column_of bytes (first + c) ≡ c
column_behind bytes first zero z whole = rw add-zero z
column_behind bytes first (suc c) z whole =
    let s : suc (first + c) ≡ first + suc c = omega arith in
    let h : ends_line bytes (first + c) ≡ false = whole (first + c) (omega arith) (omega arith) in
    let ih : column_of bytes (first + c) ≡ c = column_behind bytes first c z (λ at le lt. whole at le (omega arith)) in
    let next : column_of bytes (suc (first + c)) ≡ suc c = column_next bytes (first + c) h ∙ (ap (λ (n : ℕ). n + 1) ih ∙ add-one c) in
    subst (λ (n : ℕ). column_of bytes n ≡ suc c) s next

pub position_column : (bytes : List ℕ) (offset line column : ℕ) → IsPosition bytes offset line column → column ≡ column_of bytes offset
position_column bytes offset line column p =
    let e : p.first + column ≡ offset = p.column_is in
    let all : (at : ℕ) → p.first ≤ at → at < p.first + column → ends_line bytes at ≡ false = λ at le lt. p.whole at le (omega arith) in
    let here : column_of bytes (p.first + column) ≡ column = column_behind bytes p.first column (column_first bytes p.first p.begins) all in
    sym (subst (λ (n : ℕ). column_of bytes n ≡ column) e here)

pub position_line : (bytes : List ℕ) (offset line column : ℕ) → IsPosition bytes offset line column → line ≡ line_number bytes offset
unfolding line_number
position_line bytes offset line column p = p.line_is

pub line_within : (bytes : List ℕ) (offset : ℕ) → line_number bytes offset ≤ offset
unfolding line_number
line_within bytes offset = omega (arith, count_by-le-length (ends_line bytes) (range_with_len 0 offset), length-range_with_len 0 offset)

one_further : (b : Bool) (column offset : ℕ) → column ≤ offset → (if b then 0 else column + 1) ≤ suc offset
one_further true column offset h = omega arith
one_further false column offset h = omega arith

pub column_within : (bytes : List ℕ) (offset : ℕ) → column_of bytes offset ≤ offset
unfolding column_of
column_within bytes zero = omega arith
column_within bytes (suc offset) = one_further (ends_line bytes offset) (column_of bytes offset) offset (column_within bytes offset)

-- line and column are at most the offset, so they fit if it does
pub line_fits : (bytes : List ℕ) (offset n line : ℕ) → line ≡ line_number bytes offset → offset ≤ length bytes → length bytes < n → line < n
line_fits bytes offset n line e l h = omega (arith, line_within bytes offset)

pub column_fits : (bytes : List ℕ) (offset n column : ℕ) → column ≡ column_of bytes offset → offset ≤ length bytes → length bytes < n → column < n
column_fits bytes offset n column e l h = omega (arith, column_within bytes offset)
