-- Packed numbers: the function `packed` agrees with the relation, both ways.
use Rattle.std.proofs.Common.{◌≡◌, ◌↔◌, ℕ, zero, suc, ◌+◌, ◌<◌, ◌≤◌, ℤ, List, [], ◌∷◌, ◌++◌, length, Some, None, Result, Ok, Err, refl, sym, ap, ◌∙◌, subst, append_assoc, arith}
use Rattle.std.specs.Result.{result_err, result_unwrap_or}
use Rattle.std.proofs.lemmas.List.{length-append, append-nil}
use Rattle.proto_wire.specs.declared.fault.WireFault.{WireFault}
use Rattle.proto_wire.specs.Faults.{◌>>=◌}
use Rattle.proto_wire.specs.Varints.{IsVarint, varint_in}
use Rattle.proto_wire.specs.Packed.{varint_to_int32, ArePacked, IsPackedOutcome, packed_from, packed}
use Rattle.proto_wire.proofs.PackedLaws.{with_numbers, step, faulty, ended}
use Rattle.proto_wire.proofs.VarintReadings.{varint_found, varint_bytes, no_varint_found, VarintRead, varint_read}

with_numbers-cons : (z : ℤ) (zs : List ℤ) (reading : Result (List ℤ) WireFault) → with_numbers (z ∷ []) (with_numbers zs reading) ≡ with_numbers (z ∷ zs) reading
with_numbers-cons z zs (Ok xs) = refl
with_numbers-cons z zs (Err fault) = refl

with_numbers-nil : (reading : Result (List ℤ) WireFault) → reading ≡ with_numbers [] reading
with_numbers-nil (Ok xs) = refl
with_numbers-nil (Err fault) = refl

front_found : (most at : ℕ) (good rest : List ℕ) (zs : List ℤ) → ArePacked good zs → length (good ++ rest) ≤ most
    → (left : ℕ) × (length rest ≤ left) × (packed_from most at (good ++ rest) ≡ with_numbers zs (packed_from left at rest))
front_found most at good rest [] h enough =
    (most, omega (arith, length-append good rest), ap (λ (bs : List ℕ). packed_from most at (bs ++ rest)) h ∙ with_numbers-nil (packed_from most at rest))
front_found most at good rest (z ∷ zs) h enough = go most enough (λ n short. front_found n at h.1 rest zs h.6 short)
  where
    whole : good ++ rest ≡ h.0 ++ (h.1 ++ rest)
    whole = ap (λ (bs : List ℕ). bs ++ rest) h.3 ∙ append_assoc h.0 h.1 rest

    some : 0 < length h.0
    some = varint_bytes h.0 h.2 h.4

    count : length (h.0 ++ (h.1 ++ rest)) ≡ length h.0 + length (h.1 ++ rest)
    count = length-append h.0 (h.1 ++ rest)

    size : length (good ++ rest) ≡ length h.0 + length (h.1 ++ rest)
    size = ap length whole ∙ count

    go : (n : ℕ) → length (good ++ rest) ≤ n
        → ((m : ℕ) → length (h.1 ++ rest) ≤ m → (left : ℕ) × (length rest ≤ left) × (packed_from m at (h.1 ++ rest) ≡ with_numbers zs (packed_from left at rest)))
        → (left : ℕ) × (length rest ≤ left) × (packed_from n at (good ++ rest) ≡ with_numbers (z ∷ zs) (packed_from left at rest))
    go zero enough behind = absurd (omega (arith, some, size))
    go (suc n) enough behind =
        let others = behind n (omega (arith, some, size, enough)) in (
          others.0,
          others.1,
          ap (packed_from (suc n) at) whole
              ∙ step n at (h.0 ++ (h.1 ++ rest)) h.2 (h.1 ++ rest) (omega (arith, count, size, enough)) (omega (arith, count, some)) (varint_found at h.0 (h.1 ++ rest) h.2 h.4)
              ∙ ap (λ (first : ℤ). with_numbers (first ∷ []) (packed_from n at (h.1 ++ rest))) (sym h.5) ∙ ap (with_numbers (z ∷ [])) others.2
              ∙ with_numbers-cons z zs (packed_from others.0 at rest),
        )

outcome_found : (at : ℕ) (payload : List ℕ) (o : Result (List ℤ) WireFault) → IsPackedOutcome at payload o → packed at payload ≡ o
unfolding packed
outcome_found at payload (Ok zs) h =
    let found = front_found (length payload) at payload [] zs h (omega (arith, length-append payload [])) in
    ap (packed_from (length payload) at) (sym (append-nil payload)) ∙ found.2 ∙ ap (with_numbers zs) (ended found.0 at [] refl) ∙ ap (λ (xs : List ℤ). Ok xs) (append-nil zs)
outcome_found at payload (Err fault) s =
    let found = front_found (length payload) at s.good s.rest s.before s.are_packed (omega (arith, ap length s.form)) in
    ap (packed_from (length payload) at) s.form ∙ found.2 ∙ ap (with_numbers s.before) (faulty found.0 at s.rest fault found.1 s.some (no_varint_found at s.rest fault s.no_varint))

cons_read : (at : ℕ) (payload first rest : List ℕ) (n : ℕ) (reading : Result (List ℤ) WireFault) → payload ≡ first ++ rest → IsVarint first n → IsPackedOutcome at rest reading
    → IsPackedOutcome at payload (reading >>= λ others. Ok (varint_to_int32 n ∷ others))
cons_read at payload first rest n (Ok zs) form v others = (first, rest, n, form, v, refl, others)
cons_read at payload first rest n (Err fault) form v others = record {
  before = varint_to_int32 n ∷ others.before;
  good = first ++ others.good;
  rest = others.rest;
  form = form ∙ ap (λ (bs : List ℕ). first ++ bs) others.form ∙ sym (append_assoc first others.good others.rest);
  are_packed = (first, others.good, n, refl, v, refl, others.are_packed);
  some = others.some;
  no_varint = others.no_varint;
}

first_read : (most at b : ℕ) (bytes : List ℕ) (reading : Result (ℕ × List ℕ) WireFault) → VarintRead at (b ∷ bytes) reading → length bytes ≤ most
    → ((rest : List ℕ) → length rest ≤ most → IsPackedOutcome at rest (packed_from most at rest))
    → IsPackedOutcome at (b ∷ bytes) (reading >>= λ n. (packed_from most at n.1 >>= λ others. Ok (varint_to_int32 n.0 ∷ others)))
first_read most at b bytes (Ok x) h enough others =
    let some = varint_bytes h.0 x.0 h.2 in
    let count : suc (length bytes) ≡ length h.0 + length x.1 = ap length h.1 ∙ length-append h.0 x.1 in
    cons_read at (b ∷ bytes) h.0 x.1 x.0 (packed_from most at x.1) h.1 h.2 (others x.1 (omega (arith, some, count)))
first_read most at b bytes (Err fault) h enough others = record { before = []; good = []; rest = b ∷ bytes; form = refl; are_packed = refl; some = omega arith; no_varint = h }

packed_from-read : (most at : ℕ) (payload : List ℕ) → length payload ≤ most → IsPackedOutcome at payload (packed_from most at payload)
unfolding packed_from
packed_from-read most at [] enough = refl
packed_from-read zero at (b ∷ bytes) enough = absurd (omega arith)
packed_from-read (suc most) at (b ∷ bytes) enough = first_read most at b bytes (varint_in 10 at (b ∷ bytes)) (varint_read at (b ∷ bytes)) (omega arith) (λ rest short. packed_from-read most at rest short)

-- the result of the function is the outcome of the payload
pub packed_read : (at : ℕ) (payload : List ℕ) → IsPackedOutcome at payload (packed at payload)
unfolding packed
packed_read at payload = packed_from-read (length payload) at payload (omega arith)

pub packed_outcome_is_unique : (at : ℕ) (payload : List ℕ) (o p : Result (List ℤ) WireFault) → IsPackedOutcome at payload o → IsPackedOutcome at payload p → o ≡ p
packed_outcome_is_unique at payload o p h g = sym (outcome_found at payload o h) ∙ outcome_found at payload p g

-- a fault that the function returns is the payload's
pub fault_told : (at : ℕ) (payload : List ℕ) (fault : WireFault) → result_err (packed at payload) ≡ Some fault → IsPackedOutcome at payload (Err fault)
fault_told at payload fault e = subst (IsPackedOutcome at payload) (is_err (packed at payload) fault e) (packed_read at payload)
  where
    is_err : (reading : Result (List ℤ) WireFault) (why : WireFault) → result_err reading ≡ Some why → reading ≡ Err why
    is_err (Ok zs) why e = absurd cc
    is_err (Err other) why e = ap (λ (f : WireFault). Err f) cc

-- the numbers that the function returns, appended to none, are the payload's
pub numbers_told : (at : ℕ) (payload : List ℕ) (none numbers : List ℤ) → none ≡ [] → result_err (packed at payload) ≡ None → numbers ≡ none ++ result_unwrap_or (packed at payload) [] → IsPackedOutcome at payload (Ok numbers)
numbers_told at payload none numbers start clean e = subst (IsPackedOutcome at payload) (is_ok (packed at payload) clean (e ∙ ap (λ (zs : List ℤ). zs ++ result_unwrap_or (packed at payload) []) start)) (packed_read at payload)
  where
    is_ok : (reading : Result (List ℤ) WireFault) → result_err reading ≡ None → numbers ≡ result_unwrap_or reading [] → reading ≡ Ok numbers
    is_ok (Ok zs) clean e = ap (λ (xs : List ℤ). Ok xs) (sym e)
    is_ok (Err fault) clean e = absurd cc

-- the function returns exactly the outcome of the payload
pub packed_iff : (at : ℕ) (payload : List ℕ) (o : Result (List ℤ) WireFault) → (packed at payload ≡ o) ↔ IsPackedOutcome at payload o
packed_iff at payload o = (λ e. subst (IsPackedOutcome at payload) e (packed_read at payload), outcome_found at payload o)
