-- Reading packed numbers one after the other, as a loop does.
use Rattle.std.proofs.Common.{◌≡◌, ℕ, zero, suc, ◌<◌, ◌≤◌, ℤ, List, [], ◌∷◌, ◌++◌, length, Some, Result, Ok, Err, refl, sym, ap, ◌∙◌, append_assoc, arith}
use Rattle.std.proofs.lemmas.List.{append-nil}
use Rattle.std.specs.Result.{result_err}
use Rattle.proto_wire.specs.declared.fault.WireFault.{WireFault}
use Rattle.proto_wire.specs.Faults.{◌>>=◌}
use Rattle.proto_wire.specs.Packed.{varint_to_int32, packed_from, packed}
use Rattle.proto_wire.specs.Varints.{varint_in}

-- numbers that were read before, and numbers that are left to read
abbrev pub with_numbers : List ℤ → Result (List ℤ) WireFault → Result (List ℤ) WireFault
with_numbers front (Ok xs) = Ok (front ++ xs)
with_numbers front (Err fault) = Err fault

-- these numbers are read, and reading continues here
pub record Counts (at : ℕ) (payload : List ℕ) (front : List ℤ) (rest : List ℕ) : Type 0 where
  pub most : ℕ
  pub enough : length rest ≤ most
  pub whole : with_numbers front (packed_from most at rest) ≡ packed at payload

same : (reading : Result (List ℤ) WireFault) → with_numbers [] reading ≡ reading
same (Ok xs) = refl
same (Err fault) = refl

pub Counts-start : (at : ℕ) (payload : List ℕ) → Counts at payload [] payload
unfolding packed
Counts-start at payload = record { most = length payload; enough = omega arith; whole = same (packed_from (length payload) at payload) }

pub step : (most at : ℕ) (rest : List ℕ) (n : ℕ) (after : List ℕ) → length rest ≤ suc most → length after < length rest → varint_in 10 at rest ≡ Ok (n, after)
    → packed_from (suc most) at rest ≡ with_numbers (varint_to_int32 n ∷ []) (packed_from most at after)
unfolding packed_from
step most at [] n after enough shorter e = absurd (omega arith)
step most at (b ∷ rest) n after enough shorter e = rw e (consed (packed_from most at after))
  where
    consed : (reading : Result (List ℤ) WireFault) → (reading >>= λ others. Ok (varint_to_int32 n ∷ others)) ≡ with_numbers (varint_to_int32 n ∷ []) reading
    consed (Ok xs) = refl
    consed (Err fault) = refl

regroup : (front : List ℤ) (z : ℤ) (reading : Result (List ℤ) WireFault) → with_numbers (front ++ z ∷ []) reading ≡ with_numbers front (with_numbers (z ∷ []) reading)
regroup front z (Ok xs) = ap (λ (zs : List ℤ). Ok zs) (append_assoc front (z ∷ []) xs)
regroup front z (Err fault) = refl

pub Counts-step : (at : ℕ) (payload : List ℕ) (front : List ℤ) (rest : List ℕ) (n : ℕ) (after : List ℕ) → Counts at payload front rest → varint_in 10 at rest ≡ Ok (n, after) → length after < length rest
    → Counts at payload (front ++ varint_to_int32 n ∷ []) after
Counts-step at payload front rest n after so_far e shorter = go so_far.most so_far.enough so_far.whole
  where
    go : (most : ℕ) → length rest ≤ most → with_numbers front (packed_from most at rest) ≡ packed at payload → Counts at payload (front ++ varint_to_int32 n ∷ []) after
    go zero enough whole = absurd (omega arith)
    go (suc most) enough whole = record {
      most = most;
      enough = omega arith;
      whole = regroup front (varint_to_int32 n) (packed_from most at after) ∙ ap (with_numbers front) (sym (step most at rest n after enough shorter e)) ∙ whole;
    }

pub faulty : (most at : ℕ) (rest : List ℕ) (fault : WireFault) → length rest ≤ most → 0 < length rest → varint_in 10 at rest ≡ Err fault → packed_from most at rest ≡ Err fault
unfolding packed_from
faulty most at [] fault enough some e = absurd (omega arith)
faulty zero at (b ∷ rest) fault enough some e = absurd (omega arith)
faulty (suc most) at (b ∷ rest) fault enough some e = rw e refl

pub Counts-fault : (at : ℕ) (payload : List ℕ) (front : List ℤ) (rest : List ℕ) (fault : WireFault) → Counts at payload front rest → 0 < length rest → varint_in 10 at rest ≡ Err fault → result_err (packed at payload) ≡ Some fault
Counts-fault at payload front rest fault so_far some e = rw (← so_far.whole, faulty so_far.most at rest fault so_far.enough some e) refl

pub ended : (most at : ℕ) (rest : List ℕ) → length rest ≡ 0 → packed_from most at rest ≡ Ok []
unfolding packed_from
ended most at [] e = refl
ended most at (b ∷ rest) e = absurd (omega arith)

pub Counts-end : (at : ℕ) (payload : List ℕ) (front : List ℤ) (rest : List ℕ) → Counts at payload front rest → length rest ≡ 0 → packed at payload ≡ Ok front
Counts-end at payload front rest so_far none = rw (← so_far.whole, ended so_far.most at rest none) (ap (λ (zs : List ℤ). Ok zs) (append-nil front))
