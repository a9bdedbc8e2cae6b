-- A sequence of records with one more record, as a loop reads it.
use Rattle.std.proofs.Common.{◌≡◌, ℕ, ◌+◌, ◌-◌, ◌<◌, List, [], ◌∷◌, ◌++◌, length, Ok, Err, refl, sym, ap, ◌∙◌, subst, append_assoc, arith}
use Rattle.std.proofs.lemmas.List.{append-nil, length-append}
use Rattle.proto_wire.specs.declared.fault.WireFault.{WireFault}
use Rattle.proto_wire.specs.Records.{PayloadRecord, IsRecord, AreRecords, IsFirst, IsWrongRecord, IsStopped, IsSplit}

pub IsSplit-start : (start : ℕ) (bytes : List ℕ) → IsSplit start bytes [] start bytes
IsSplit-start start bytes = record { good = []; form = refl; are_records = refl; here = omega arith }

-- records, and one more record
AreRecords-push : (at : ℕ) (good first : List ℕ) (front : List PayloadRecord) (p : PayloadRecord) → AreRecords at good front → IsRecord (at + length good) first p → AreRecords at (good ++ first) (front ++ p ∷ [])
AreRecords-push at good first [] p h r =
    let place : at + length good ≡ at = omega (arith, ap length h) in
    (first, [], ap (λ (bs : List ℕ). bs ++ first) h ∙ sym (append-nil first), subst (λ (here : ℕ). IsRecord here first p) place r, refl)
AreRecords-push at good first (q ∷ front) p h r =
    let place : at + length good ≡ (at + length h.0) + length h.1 = omega (arith, ap length h.2, length-append h.0 h.1) in (
      h.0,
      h.1 ++ first,
      ap (λ (bs : List ℕ). bs ++ first) h.2 ∙ append_assoc h.0 h.1 first,
      h.3,
      AreRecords-push (at + length h.0) h.1 first front p h.4 (subst (λ (here : ℕ). IsRecord here first p) place r),
    )

pub IsSplit-step : (start : ℕ) (bytes : List ℕ) (front : List PayloadRecord) (at : ℕ) (rest : List ℕ) (p : PayloadRecord) (after : List ℕ) → IsSplit start bytes front at rest → IsFirst at rest (Ok (p, after))
    → IsSplit start bytes (front ++ p ∷ []) (at + (length rest - length after)) after
IsSplit-step start bytes front at rest p after so_far h = record {
  good = so_far.good ++ h.0;
  form = so_far.form ∙ ap (λ (bs : List ℕ). so_far.good ++ bs) h.1 ∙ sym (append_assoc so_far.good h.0 after);
  are_records = AreRecords-push start so_far.good h.0 front p so_far.are_records (subst (λ (here : ℕ). IsRecord here h.0 p) so_far.here h.2);
  here = omega (arith, so_far.here, ap length h.1, length-append h.0 after, length-append so_far.good h.0);
}

pub IsSplit-fault : (start : ℕ) (bytes : List ℕ) (front : List PayloadRecord) (at : ℕ) (rest : List ℕ) (fault : WireFault) → IsSplit start bytes front at rest → 0 < length rest → IsFirst at rest (Err fault) → IsStopped start bytes front fault
IsSplit-fault start bytes front at rest fault so_far some wrong = record {
  good = so_far.good;
  rest = rest;
  form = so_far.form;
  are_records = so_far.are_records;
  some = some;
  is_wrong = subst (λ (here : ℕ). IsWrongRecord here rest fault) so_far.here wrong;
}

no_bytes : (bytes : List ℕ) → length bytes ≡ 0 → bytes ≡ []
no_bytes [] e = refl
no_bytes (b ∷ bytes) e = absurd (omega arith)

pub IsSplit-end : (start : ℕ) (bytes : List ℕ) (front : List PayloadRecord) (at : ℕ) (rest : List ℕ) → IsSplit start bytes front at rest → length rest ≡ 0 → AreRecords start bytes front
IsSplit-end start bytes front at rest so_far none =
    let whole : bytes ≡ so_far.good = so_far.form ∙ ap (λ (bs : List ℕ). so_far.good ++ bs) (no_bytes rest none) ∙ append-nil so_far.good in
    subst (λ (bs : List ℕ). AreRecords start bs front) (sym whole) so_far.are_records
