-- No fault of bytes is a failed device.
use Rattle.std.proofs.Common.{◌≡◌, ℕ, ℤ, Bool, true, false, cond, List, Option, Some, None, Result, Ok, Err, subst, ◌==◌}
use Rattle.std.specs.Result.{result_err}
use Rattle.std.specs.Str.{is_utf8}
use Rattle.std.proofs.lemmas.Option.{same_Some}
use Rattle.proto_wire.specs.declared.fault.WireFault.{WireFault}
use Rattle.proto_wire.specs.declared.fault.WireFault.TheVariants.{BadText, Device}
use Rattle.proto_wire.specs.declared.record.WireRecord.{WireRecord}
use Rattle.proto_wire.specs.declared.record.WireValue.{WireValue}
use Rattle.proto_wire.specs.declared.record.WireValue.TheVariants.{Varint, Eight, Bytes, Four}
use Rattle.proto_wire.specs.Messages.{field_fault, first_of, message_fault, value_message_fault, numbers_fault, value_numbers_fault, text_fault, value_text_fault, IsNextFault, IsFirstFault, in_record, of_record}
use Rattle.proto_wire.specs.Packed.{packed, IsPackedOutcome}
use Rattle.proto_wire.specs.Records.{PayloadRecord}
use Rattle.proto_wire.specs.Varints.{IsNoVarint}
use Rattle.proto_wire.proofs.MessageLaws.{first_fault_iff}
use Rattle.proto_wire.proofs.PackedReadings.{packed_read}
use Rattle.scip_index.specs.Meaning.{document_fault, index_fault, metadata_fault, occurrence_fault, symbol_fault, tool_fault}

-- no record has this fault inside
abbrev pub IsNever : (PayloadRecord → Option WireFault) → Type 0
IsNever inside = (p : PayloadRecord) → inside p ≡ Some Device → ⊥

-- nor then does a message
pub first_never : (inside : PayloadRecord → Option WireFault) → IsNever inside → (start : ℕ) (bytes : List ℕ) → IsFirstFault inside start bytes Device → ⊥
first_never inside never start bytes h = behind h.2
  where
    behind : IsNextFault inside start bytes h.0 Device → ⊥
    behind (in_record p at rest reaches e) = never p e
    behind (of_record stopped) = stopped.is_wrong

text_given : (v : WireValue) (at : ℕ) (payload : List ℕ) → value_text_fault v at payload ≡ Some Device → ⊥
text_given (Varint n) at payload e = absurd cc
text_given Eight at payload e = absurd cc
text_given (Bytes count) at payload e = go (is_utf8 payload) e
  where
    go : (b : Bool) → cond b None (Some (BadText at)) ≡ Some Device → ⊥
    go true f = absurd cc
    go false f = absurd cc
text_given Four at payload e = absurd cc

value_numbers : (v : WireValue) (at : ℕ) (payload : List ℕ) → value_numbers_fault v at payload ≡ Some Device → ⊥
value_numbers (Varint n) at payload e = absurd cc
value_numbers Eight at payload e = absurd cc
value_numbers (Bytes count) at payload e = go (packed at payload) (packed_read at payload) e
  where
    go : (r : Result (List ℤ) WireFault) → IsPackedOutcome at payload r → result_err r ≡ Some Device → ⊥
    go (Ok zs) is f = absurd cc
    go (Err fault) is f = subst (IsNoVarint at is.rest) (same_Some fault Device f) is.no_varint
value_numbers Four at payload e = absurd cc

message_given : (inside : PayloadRecord → Option WireFault) → IsNever inside → (v : WireValue) (body : ℕ) (payload : List ℕ) → value_message_fault inside v body payload ≡ Some Device → ⊥
message_given inside never (Varint n) body payload e = absurd cc
message_given inside never Eight body payload e = absurd cc
message_given inside never (Bytes count) body payload e = first_never inside never body payload ((first_fault_iff inside body payload Device).0 e)
message_given inside never Four body payload e = absurd cc

-- in a field
field : (k : ℕ) (wire : WireRecord) (fault : Option WireFault) → (fault ≡ Some Device → ⊥) → field_fault k wire fault ≡ Some Device → ⊥
unfolding field_fault
field k wire fault never e = go (wire.field == k) e
  where
    go : (b : Bool) → cond b fault None ≡ Some Device → ⊥
    go true f = never f
    go false f = absurd cc

-- of one fault or another
either : (a b : Option WireFault) → (a ≡ Some Device → ⊥) → (b ≡ Some Device → ⊥) → first_of a b ≡ Some Device → ⊥
either None b first later e = later e
either (Some fault) b first later e = first e

text : (k : ℕ) (p : PayloadRecord) → field_fault k p.wire (text_fault p) ≡ Some Device → ⊥
text k p = field k p.wire (text_fault p) (text_given p.wire.value p.wire.at p.payload)

numbers : (k : ℕ) (p : PayloadRecord) → field_fault k p.wire (numbers_fault p) ≡ Some Device → ⊥
numbers k p = field k p.wire (numbers_fault p) (value_numbers p.wire.value p.wire.at p.payload)

message : (inside : PayloadRecord → Option WireFault) → IsNever inside → (k : ℕ) (p : PayloadRecord) → field_fault k p.wire (message_fault inside p) ≡ Some Device → ⊥
message inside never k p = field k p.wire (message_fault inside p) (message_given inside never p.wire.value p.wire.body p.payload)

-- ---- the messages of an index

occurrence_never : IsNever occurrence_fault
occurrence_never p = either _ _ (numbers 1 p) (either _ _ (text 2 p) (numbers 7 p))

symbol_never : IsNever symbol_fault
symbol_never p = either _ _ (text 1 p) (text 6 p)

document_never : IsNever document_fault
document_never p = either _ _ (text 1 p) (either _ _ (message occurrence_fault occurrence_never 2 p) (either _ _ (message symbol_fault symbol_never 3 p) (text 4 p)))

tool_never : IsNever tool_fault
tool_never p = either _ _ (text 1 p) (either _ _ (text 2 p) (text 3 p))

metadata_never : IsNever metadata_fault
metadata_never p = either _ _ (message tool_fault tool_never 2 p) (text 3 p)

pub index_never : IsNever index_fault
index_never p =
    either _ _ (message metadata_fault metadata_never 1 p)
    (either _ _ (message document_fault document_never 2 p) (message symbol_fault symbol_never 3 p))
