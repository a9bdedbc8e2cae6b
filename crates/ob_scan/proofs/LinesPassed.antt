-- Sixteen bytes among which no line ends.
use Rattle.std.proofs.Common.{◌≡◌, ℕ, ◌+◌, ◌<◌, ◌≤◌, Bool, true, false, not, ◌&&◌, ◌||◌, List, length, take, drop, refl, inl, inr, rules, arith}
use Rattle.std.proofs.lemmas.Bool.{cases_lt}
use Rattle.std.proofs.lemmas.Simd.{run_in_chunk_le, run_in_chunk_fails}
use Rattle.std.specs.List.{prefix_len}
use Rattle.std.specs.Prelude.{slice_index, ◌==◌}
use Rattle.ob_scan.specs.Lexemes.{ends_no_line}
use Rattle.ob_scan.specs.Position.{ends_line}

ends_none_by : (a b c : Bool) → a || b ≡ false → a || (b && c) ≡ false
ends_none_by true b c e = e
ends_none_by false true c e = absurd (search (rules, e))
ends_none_by false false c e = refl

-- a byte that ends no line, whatever is after it
pub ends_none : (bytes : List ℕ) (k : ℕ) → (slice_index bytes k == 10) || (slice_index bytes k == 13) ≡ false → ends_line bytes k ≡ false
ends_none bytes k e = ends_none_by (slice_index bytes k == 10) (slice_index bytes k == 13) (not (slice_index bytes (k + 1) == 10)) e

-- no line ends before the first of sixteen bytes that may end one
pub lines_pass : (bytes : List ℕ) (at n : ℕ) → at + 16 ≤ length bytes → n ≡ prefix_len ends_no_line (take 16 (drop at bytes)) →
    (n ≤ 16) × ((k : ℕ) → at ≤ k → k < at + n → ends_line bytes k ≡ false)
lines_pass bytes at n room is =
    let ends = λ (b : ℕ). (b == 10) || (b == 13) in
    (run_in_chunk_le ends bytes at 16 n 0 room is, λ k from to. ends_none bytes k (run_in_chunk_fails ends bytes at 16 n 0 room is k from to))

-- no line ends in the bytes that were skipped before and in those skipped now
pub passed_on : (bytes : List ℕ) (from at to : ℕ) → ((k : ℕ) → from ≤ k → k < at → ends_line bytes k ≡ false) → ((k : ℕ) → at ≤ k → k < to → ends_line bytes k ≡ false)
    → (k : ℕ) → from ≤ k → k < to → ends_line bytes k ≡ false
passed_on bytes from at to before now k le lt = elim (cases_lt k at) [
  | inl under ↦ before k le under
  | inr over ↦ now k (omega (arith, over)) lt
]
