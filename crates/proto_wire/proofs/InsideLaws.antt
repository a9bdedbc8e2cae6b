-- The records of bytes, one at a time from the start.
use Rattle.std.proofs.Common.{◌≡◌, ℕ, ℤ, ◌+◌, ◌-◌, List, [], ◌∷◌, ◌++◌, length, Option, Some, None, Result, Ok, Err, inl, inr, refl, sym, ap, ◌∙◌, subst, arith}
use Rattle.std.specs.Prelude.{◌==◌}
use Rattle.std.specs.Result.{result_err, result_unwrap_or}
use Rattle.std.proofs.lemmas.Bool.{cases_Bool}
use Rattle.std.proofs.lemmas.List.{length-append}
use Rattle.proto_wire.specs.declared.fault.WireFault.{WireFault}
use Rattle.proto_wire.specs.Records.{PayloadRecord, IsFirst}
use Rattle.proto_wire.specs.Readings.{payload_records}
use Rattle.proto_wire.specs.Packed.{packed}
use Rattle.proto_wire.specs.declared.record.WireValue.{WireValue}
use Rattle.proto_wire.specs.declared.record.WireValue.TheVariants.{Varint, Eight, Bytes, Four}
use Rattle.proto_wire.specs.Messages.{if_field, field_values, field_fault, latest, numbers_fault, value_numbers_fault, value_numbers, numbers_in}
use Rattle.proto_wire.proofs.MessageSteps.{latest-append}
use Rattle.proto_wire.proofs.PieceLaws.{ended}
use Rattle.proto_wire.proofs.PieceReadings.{records_found, stop_found, pieces_read, PiecesRead, PiecesRead-cons}
use Rattle.proto_wire.proofs.RowLaws.{IsSplit-start, IsSplit-fault}

-- if the first record is wrong, or there is none, no record is read
pub none_first : (at : ℕ) (bytes : List ℕ) (fault : WireFault) → IsFirst at bytes (Err fault) → (payload_records at bytes).0 ≡ []
unfolding payload_records
none_first at [] fault wrong = ap (λ (found : List PayloadRecord × Option WireFault). found.0) (ended 0 at [] refl)
none_first at (b ∷ bytes) fault wrong =
    ap (λ (found : List PayloadRecord × Option WireFault). found.0)
    (stop_found at (b ∷ bytes) [] fault (IsSplit-fault at (b ∷ bytes) [] at (b ∷ bytes) fault (IsSplit-start at (b ∷ bytes)) (omega arith) wrong))

found_again : (at : ℕ) (bytes : List ℕ) (pieces : List PayloadRecord) (end : Option WireFault) → PiecesRead at bytes pieces end → payload_records at bytes ≡ (pieces, end)
found_again at bytes pieces None h = records_found at bytes pieces h
found_again at bytes pieces (Some fault) h = stop_found at bytes pieces fault h

pub none_left : (at : ℕ) (bytes : List ℕ) → length bytes ≡ 0 → (payload_records at bytes).0 ≡ []
unfolding payload_records
none_left at [] none = ap (λ (found : List PayloadRecord × Option WireFault). found.0) (ended 0 at [] refl)
none_left at (b ∷ bytes) none = absurd (omega arith)

-- the first record, then the records after it with their fault
pub first_whole : (at : ℕ) (bytes : List ℕ) (p : PayloadRecord) (after : List ℕ) → IsFirst at bytes (Ok (p, after))
    → payload_records at bytes ≡ (p ∷ (payload_records (at + (length bytes - length after)) after).0, (payload_records (at + (length bytes - length after)) after).1)
first_whole at bytes p after h =
    let count : length bytes ≡ length h.0 + length after = ap length h.1 ∙ length-append h.0 after in
    let here : ℕ = at + (length bytes - length after) in
    let place : here ≡ at + length h.0 = omega (arith, count) in
    let found = payload_records here after in
    let others = subst (λ (start : ℕ). PiecesRead start after found.0 found.1) place (pieces_read here after) in
    found_again at bytes (p ∷ found.0) found.1 (PiecesRead-cons at bytes h.0 after p found.0 found.1 h.1 h.2 others)

pub first_then : (at : ℕ) (bytes : List ℕ) (p : PayloadRecord) (after : List ℕ) → IsFirst at bytes (Ok (p, after)) → (payload_records at bytes).0 ≡ p ∷ (payload_records (at + (length bytes - length after)) after).0
first_then at bytes p after h = ap (λ (x : List PayloadRecord × Option WireFault). x.0) (first_whole at bytes p after h)

-- the values of a field in the first record, then those in the other records
pub each_then : {X : Type 0} (k : ℕ) (gives : PayloadRecord → List X) (pieces : List PayloadRecord) (p : PayloadRecord) (others : List PayloadRecord) → pieces ≡ p ∷ others → field_values k gives pieces ≡ if_field k p.wire (gives p) ++ field_values k gives others
unfolding field_values
each_then k gives pieces p others e = rw e refl

pub each_none : {X : Type 0} (k : ℕ) (gives : PayloadRecord → List X) (pieces : List PayloadRecord) → pieces ≡ [] → field_values k gives pieces ≡ []
unfolding field_values
each_none k gives pieces e = rw e refl

-- the latest value so far, and one more record
pub latest_then : {X : Type 0} (k : ℕ) (gives : PayloadRecord → List X) (last next : X) (pieces : List PayloadRecord) (p : PayloadRecord) (others : List PayloadRecord) → pieces ≡ p ∷ others → next ≡ latest last (if_field k p.wire (gives p))
    → latest last (field_values k gives pieces) ≡ latest next (field_values k gives others)
latest_then {X = X} k gives last next pieces p others e n =
    ap (latest last) (each_then k gives pieces p others e) ∙ latest-append last (if_field k p.wire (gives p)) (field_values k gives others) ∙ ap (λ (x : X). latest x (field_values k gives others)) (sym n)

pub latest_none : {X : Type 0} (k : ℕ) (gives : PayloadRecord → List X) (last : X) (pieces : List PayloadRecord) → pieces ≡ [] → latest last (field_values k gives pieces) ≡ last
latest_none k gives last pieces e = ap (latest last) (each_none k gives pieces e)

-- a payload that isn't a sequence of varints gives no numbers
pub numbers_none : (k : ℕ) (p : PayloadRecord) (fault : WireFault) → field_fault k p.wire (numbers_fault p) ≡ Some fault → if_field k p.wire (numbers_in p) ≡ []
unfolding field_fault if_field
numbers_none k p fault e =
    elim (cases_Bool (p.wire.field == k)) [
      | inr other ↦ rw other refl
      | inl here ↦ rw here (wrong p.wire.value p.wire.at p.payload (rw here at e))
    ]
  where
    none : (reading : Result (List ℤ) WireFault) → result_err reading ≡ Some fault → result_unwrap_or reading [] ≡ []
    none (Ok zs) e = absurd cc
    none (Err other) e = refl

    wrong : (value : WireValue) (at : ℕ) (payload : List ℕ) → value_numbers_fault value at payload ≡ Some fault → value_numbers value at payload ≡ []
    wrong (Varint n) at payload e = absurd cc
    wrong Eight at payload e = absurd cc
    wrong (Bytes count) at payload e = none (packed at payload) e
    wrong Four at payload e = absurd cc
