-- The fault of a string, and what one more record adds to a field.
use Rattle.std.proofs.Common.{◌≡◌, ℕ, List, Option, Some, None, refl, ◌∙◌}
use Rattle.std.specs.Str.{IsUtf8, is_utf8}
use Rattle.std.proofs.lemmas.Bool.{false_from_ne_true, eq-eqb}
use Rattle.std.proofs.lemmas.Str.{IsUtf8-from_is_utf8, is_utf8-from_IsUtf8}
use Rattle.proto_wire.specs.declared.fault.WireFault.{WireFault}
use Rattle.proto_wire.specs.declared.fault.WireFault.TheVariants.{BadText}
use Rattle.proto_wire.specs.declared.record.WireValue.{WireValue}
use Rattle.proto_wire.specs.declared.record.WireValue.TheVariants.{Bytes}
use Rattle.proto_wire.specs.Messages.{field_fault, text_fault, value_text_fault}
use Rattle.proto_wire.specs.Records.{PayloadRecord}

pub text-good : (value : WireValue) (count at : ℕ) (payload : List ℕ) → value ≡ Bytes count → IsUtf8 payload → value_text_fault value at payload ≡ None
text-good value count at payload e h = rw (e, is_utf8-from_IsUtf8 payload h) refl

pub text-bad : (value : WireValue) (count at : ℕ) (payload : List ℕ) → value ≡ Bytes count → (IsUtf8 payload → ⊥) → value_text_fault value at payload ≡ Some (BadText at)
text-bad value count at payload e h = rw (e, false_from_ne_true (is_utf8 payload) (λ t. h (IsUtf8-from_is_utf8 payload t))) refl

field_fault-hit : (k : ℕ) (p : PayloadRecord) (fault : Option WireFault) → p.wire.field ≡ k → field_fault k p.wire fault ≡ fault
unfolding field_fault
field_fault-hit k p fault e = rw (eq-eqb p.wire.field k e) refl

pub text_at-good : (k : ℕ) (p : PayloadRecord) (count : ℕ) → p.wire.field ≡ k → p.wire.value ≡ Bytes count → IsUtf8 p.payload → field_fault k p.wire (text_fault p) ≡ None
text_at-good k p count e v h = field_fault-hit k p (text_fault p) e ∙ text-good p.wire.value count p.wire.at p.payload v h

pub text_at-bad : (k : ℕ) (p : PayloadRecord) (count : ℕ) → p.wire.field ≡ k → p.wire.value ≡ Bytes count → (IsUtf8 p.payload → ⊥) → field_fault k p.wire (text_fault p) ≡ Some (BadText p.wire.at)
text_at-bad k p count e v h = field_fault-hit k p (text_fault p) e ∙ text-bad p.wire.value count p.wire.at p.payload v h
