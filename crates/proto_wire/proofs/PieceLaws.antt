-- The function that reads records, step by step.
use Rattle.std.proofs.Common.{◌≡◌, ℕ, zero, suc, ◌+◌, ◌-◌, ◌<◌, ◌≤◌, eqb, false, List, [], ◌∷◌, ◌++◌, length, Option, Some, None, Ok, Err, refl, arith}
use Rattle.proto_wire.specs.declared.fault.WireFault.{WireFault}
use Rattle.proto_wire.specs.Readings.{record_in, payload_records_from}
use Rattle.proto_wire.specs.Records.{PayloadRecord}

-- records that were read before, and records that are left to read
abbrev pub with_front : List PayloadRecord → List PayloadRecord × Option WireFault → List PayloadRecord × Option WireFault
with_front front found = (front ++ found.0, found.1)

pub payload_records_from-step : (most at : ℕ) (rest : List ℕ) (p : PayloadRecord) (after : List ℕ) → length rest ≤ suc most → length after < length rest → record_in at rest ≡ Ok (p, after)
    → payload_records_from (suc most) at rest ≡ with_front (p ∷ []) (payload_records_from most (at + (length rest - length after)) after)
unfolding payload_records_from
payload_records_from-step most at [] p after enough shorter e = absurd (omega arith)
payload_records_from-step most at (b ∷ rest) p after enough shorter e = rw e refl

pub faulty : (most at : ℕ) (rest : List ℕ) (fault : WireFault) → length rest ≤ most → 0 < length rest → record_in at rest ≡ Err fault → payload_records_from most at rest ≡ ([], Some fault)
unfolding payload_records_from
faulty most at [] fault enough some e = absurd (omega arith)
faulty zero at (b ∷ rest) fault enough some e = absurd (omega arith)
faulty (suc most) at (b ∷ rest) fault enough some e = rw e refl

pub ended : (most at : ℕ) (rest : List ℕ) → length rest ≡ 0 → payload_records_from most at rest ≡ ([], None)
unfolding payload_records_from
ended most at [] e = refl
ended most at (b ∷ rest) e = absurd (omega arith)

pub some_from_test : (n : ℕ) → eqb n 0 ≡ false → 0 < n
some_from_test zero e = absurd cc
some_from_test (suc n) e = omega arith
