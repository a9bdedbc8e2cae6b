-- Occurrences of a few compact records without a fault.
use Rattle.std.proofs.Common.{◌≡◌, ◌≤◌, ℕ, List, [], ◌∷◌, length, true, false, Option, None, Result, Ok, Err, refl, arith}
use Rattle.std.specs.Prelude.{OnOk}
use Rattle.std.specs.Result.{is_ok, is_err}
use Rattle.std.proofs.lemmas.Bool.{ne_eqb, eq-eqb}
use Rattle.proto_wire.specs.declared.fault.WireFault.{WireFault}
use Rattle.proto_wire.specs.declared.record.WireRecord.{WireRecord}
use Rattle.proto_wire.specs.declared.record.WireValue.{WireValue}
use Rattle.proto_wire.specs.declared.record.WireValue.TheVariants.{Varint, Eight, Bytes, Four}
use Rattle.proto_wire.specs.Records.{PayloadRecord}
use Rattle.proto_wire.specs.Readings.{payload_records}
use Rattle.proto_wire.specs.Messages.{fault_of, field_fault, first_fault, message_fault, value_message_fault, numbers_fault, payload_record, text_fault}
use Rattle.proto_wire.proofs.PieceLaws.{ended}
use Rattle.scip_index.specs.Meaning.{occurrence_fault}

-- a record without a fault, followed by others without one
pub clean_before : (inside : PayloadRecord → Option WireFault) (at there : ℕ) (bytes rest : List ℕ) (p : PayloadRecord) → payload_records at bytes ≡ (p ∷ (payload_records there rest).0, (payload_records there rest).1)
    → inside p ≡ None → fault_of inside there rest ≡ None → fault_of inside at bytes ≡ None
unfolding first_fault
clean_before inside at there bytes rest p e clean others = rw (e, clean) others

-- at the end there is no fault
pub clean_end : (inside : PayloadRecord → Option WireFault) (at : ℕ) (bytes : List ℕ) → length bytes ≡ 0 → fault_of inside at bytes ≡ None
unfolding first_fault payload_records
clean_end inside at [] none = rw (ended 0 at [] refl) refl
clean_end inside at (b ∷ bytes) none = absurd (omega arith)

missed : (k : ℕ) (p : PayloadRecord) (fault : Option WireFault) → (p.wire.field ≡ k → ⊥) → field_fault k p.wire fault ≡ None
unfolding field_fault
missed k p fault other = rw (ne_eqb p.wire.field k other) refl

-- a range, a symbol and what follows them, without a fault
pub clean_range : (p : PayloadRecord) → p.wire.field ≡ 1 → field_fault 1 p.wire (numbers_fault p) ≡ None → occurrence_fault p ≡ None
clean_range p f e = rw (e, missed 2 p (text_fault p) (λ g. omega (arith, f, g)), missed 7 p (numbers_fault p) (λ g. omega (arith, f, g))) refl

pub clean_symbol : (p : PayloadRecord) → p.wire.field ≡ 2 → field_fault 2 p.wire (text_fault p) ≡ None → occurrence_fault p ≡ None
clean_symbol p f e = rw (e, missed 1 p (numbers_fault p) (λ g. omega (arith, f, g)), missed 7 p (numbers_fault p) (λ g. omega (arith, f, g))) refl

pub clean_further : (p : PayloadRecord) → 3 ≤ p.wire.field → field_fault 7 p.wire (numbers_fault p) ≡ None → occurrence_fault p ≡ None
clean_further p further e = rw (missed 1 p (numbers_fault p) (λ g. omega (arith, further, g)), missed 2 p (text_fault p) (λ g. omega (arith, further, g)), e) refl

-- what a call that returns no fault implies
pub when_clean : {P : Type 0} (result : Result (Unit {0}) WireFault) → is_ok result ≡ true → OnOk result P → P
when_clean (Ok x) e p = p
when_clean (Err fault) e p = absurd cc

pub when_no_fault : {P : Type 0} (result : Result (Unit {0}) WireFault) → is_err result ≡ false → OnOk result P → P
when_no_fault (Ok x) e p = p
when_no_fault (Err fault) e p = absurd cc

message_given : (inside : PayloadRecord → Option WireFault) (value : WireValue) (body : ℕ) (payload : List ℕ) → fault_of inside body payload ≡ None → value_message_fault inside value body payload ≡ None
message_given inside (Varint n) body payload e = refl
message_given inside Eight body payload e = refl
message_given inside (Bytes count) body payload e = e
message_given inside Four body payload e = refl

-- the message that a record of this field carries has no fault
pub clean_message : (k : ℕ) (inside : PayloadRecord → Option WireFault) (wire : WireRecord) (payload : List ℕ) → wire.field ≡ k → fault_of inside wire.body payload ≡ None
    → field_fault k wire (message_fault inside (payload_record wire payload)) ≡ None
unfolding field_fault
clean_message k inside wire payload f e = rw (eq-eqb wire.field k f) (message_given inside wire.value wire.body payload e)
