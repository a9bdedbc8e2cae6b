-- What the records of a message encode, and the first fault in it.
use Rattle.std.specs.Prelude.{◌≡◌, ℕ, ◌==◌, ℤ, List, [], ◌∷◌, ◌++◌, Option, Some, None, if◌then◌else◌}
use Rattle.std.specs.Result.{result_err, result_unwrap_or}
use Rattle.std.specs.Str.{is_utf8}
use Rattle.std.specs.List.{flat_map, AllByRecursion}
use Rattle.proto_wire.specs.declared.fault.WireFault.{WireFault}
use Rattle.proto_wire.specs.declared.fault.WireFault.TheVariants.{BadText}
use Rattle.proto_wire.specs.declared.record.WireRecord.{WireRecord}
use Rattle.proto_wire.specs.declared.record.WireValue.{WireValue}
use Rattle.proto_wire.specs.declared.record.WireValue.TheVariants.{Varint, Eight, Bytes, Four}
use Rattle.proto_wire.specs.Records.{PayloadRecord, IsStopped, IsSplit}
use Rattle.proto_wire.specs.Packed.{varint_to_int32, packed}
use Rattle.proto_wire.specs.Readings.{payload_records}

-- the first fault if there is one, and otherwise the second
abbrev pub first_of : Option WireFault → Option WireFault → Option WireFault
first_of None later = later
first_of (Some fault) later = Some fault

-- the first fault inside the records, in order, or else the fault at their end
unfoldable pub first_fault : (PayloadRecord → Option WireFault) → List PayloadRecord → Option WireFault → Option WireFault
first_fault inside [] end = end
first_fault inside (p ∷ pieces) end = first_of (inside p) (first_fault inside pieces end)

-- the first fault of a message's bytes, which begin at this offset
abbrev pub fault_of : (PayloadRecord → Option WireFault) → ℕ → List ℕ → Option WireFault
fault_of inside at bytes = first_fault inside (payload_records at bytes).0 (payload_records at bytes).1

-- none of the records has a fault inside
abbrev pub IsClean : (PayloadRecord → Option WireFault) → List PayloadRecord → Type 0
IsClean inside pieces = AllByRecursion (λ p. inside p ≡ None) pieces

-- the bytes, which begin at offset start, begin with these records, and the next record has this fault: inside it, or because the record
-- itself is wrong
pub data IsNextFault (inside : PayloadRecord → Option WireFault) (start : ℕ) (bytes : List ℕ) (front : List PayloadRecord) (fault : WireFault) : Type 0 where
  in_record : (p : PayloadRecord) (at : ℕ) (rest : List ℕ) → IsSplit start bytes (front ++ p ∷ []) at rest → inside p ≡ Some fault → IsNextFault inside start bytes front fault
  of_record : IsStopped start bytes front fault → IsNextFault inside start bytes front fault

-- the fault is the first one of a message's bytes: it comes after records without a fault inside
abbrev pub IsFirstFault : (PayloadRecord → Option WireFault) → ℕ → List ℕ → WireFault → Type 0
IsFirstFault inside start bytes fault = (front : List PayloadRecord) × IsClean inside front × IsNextFault inside start bytes front fault

-- a record with its payload
abbrev pub payload_record : WireRecord → List ℕ → PayloadRecord
payload_record wire payload = record { wire = wire; payload = payload }

-- the values xs of a record if it has the field number k, and otherwise none
unfoldable pub if_field : {X : Type 0} → ℕ → WireRecord → List X → List X
if_field k wire xs = if wire.field == k then xs else []

-- the fault in a record, if it has this field number
unfoldable pub field_fault : ℕ → WireRecord → Option WireFault → Option WireFault
field_fault k wire fault = if wire.field == k then fault else None

-- the values of all records with this field number, concatenated
unfoldable pub field_values : {X : Type 0} → ℕ → (PayloadRecord → List X) → List PayloadRecord → List X
field_values k gives [] = []
field_values k gives (p ∷ pieces) = if_field k p.wire (gives p) ++ field_values k gives pieces

-- the last element of the list, or the value old if the list is empty. So the last record of a singular field counts
abbrev pub latest : {X : Type 0} → X → List X → X
latest old [] = old
latest old (x ∷ xs) = latest x xs

-- the number in a record's value, if it is a varint: its low 32 bits
abbrev pub value_number : WireValue → List ℤ
value_number (Varint n) = varint_to_int32 n ∷ []
value_number Eight = []
value_number (Bytes count) = []
value_number Four = []

abbrev pub number_in : PayloadRecord → List ℤ
number_in p = value_number p.wire.value

-- the numbers in the value of a record of a repeated field, packed or not
abbrev pub value_numbers : WireValue → ℕ → List ℕ → List ℤ
value_numbers (Varint n) at payload = varint_to_int32 n ∷ []
value_numbers Eight at payload = []
value_numbers (Bytes count) at payload = result_unwrap_or (packed at payload) []
value_numbers Four at payload = []

abbrev pub numbers_in : PayloadRecord → List ℤ
numbers_in p = value_numbers p.wire.value p.wire.at p.payload

-- the fault in a packed payload
abbrev pub value_numbers_fault : WireValue → ℕ → List ℕ → Option WireFault
value_numbers_fault (Varint n) at payload = None
value_numbers_fault Eight at payload = None
value_numbers_fault (Bytes count) at payload = result_err (packed at payload)
value_numbers_fault Four at payload = None

abbrev pub numbers_fault : PayloadRecord → Option WireFault
numbers_fault p = value_numbers_fault p.wire.value p.wire.at p.payload

-- the payload of a record, if it has one
abbrev pub value_bytes : WireValue → List ℕ → List (List ℕ)
value_bytes (Varint n) payload = []
value_bytes Eight payload = []
value_bytes (Bytes count) payload = payload ∷ []
value_bytes Four payload = []

abbrev pub bytes_in : PayloadRecord → List (List ℕ)
bytes_in p = value_bytes p.wire.value p.payload

-- the fault of a string that isn't UTF-8
abbrev pub value_text_fault : WireValue → ℕ → List ℕ → Option WireFault
value_text_fault (Varint n) at payload = None
value_text_fault Eight at payload = None
value_text_fault (Bytes count) at payload = if is_utf8 payload then None else Some (BadText at)
value_text_fault Four at payload = None

abbrev pub text_fault : PayloadRecord → Option WireFault
text_fault p = value_text_fault p.wire.value p.wire.at p.payload

-- the records of the message in a record's payload
abbrev pub value_records : WireValue → ℕ → List ℕ → List (List PayloadRecord)
value_records (Varint n) body payload = []
value_records Eight body payload = []
value_records (Bytes count) body payload = (payload_records body payload).0 ∷ []
value_records Four body payload = []

abbrev pub nested_records : PayloadRecord → List (List PayloadRecord)
nested_records p = value_records p.wire.value p.wire.body p.payload

-- the first fault of the message in a record's payload
abbrev pub value_message_fault : (PayloadRecord → Option WireFault) → WireValue → ℕ → List ℕ → Option WireFault
value_message_fault inside (Varint n) body payload = None
value_message_fault inside Eight body payload = None
value_message_fault inside (Bytes count) body payload = fault_of inside body payload
value_message_fault inside Four body payload = None

abbrev pub message_fault : (PayloadRecord → Option WireFault) → PayloadRecord → Option WireFault
message_fault inside p = value_message_fault inside p.wire.value p.wire.body p.payload

-- each message is the one that its records encode
abbrev pub MeansEach : {M : Type 0} → (M → List PayloadRecord → Type 0) → List M → List (List PayloadRecord) → Type 0
MeansEach Means [] [] = Unit {0}
MeansEach Means [] (ps ∷ others) = ⊥
MeansEach Means (m ∷ ms) [] = ⊥
MeansEach Means (m ∷ ms) (ps ∷ others) = Means m ps × MeansEach Means ms others

-- the new list of messages is the old one, followed by the message of each of these lists of records
abbrev pub AddsMessages : {M : Type 0} → (M → List PayloadRecord → Type 0) → List (List PayloadRecord) → List M → List M → Type 0
AddsMessages {M} Means given old new = (ms : List M) × (new ≡ old ++ ms) × MeansEach Means ms given

-- the optional message is the merge of these lists of records: None if there is no list, and otherwise the message that the concatenation
-- of the lists encodes
abbrev pub IsMerged : {M : Type 0} → (M → List PayloadRecord → Type 0) → Option M → List (List PayloadRecord) → Type 0
IsMerged Means None [] = Unit {0}
IsMerged Means None (ps ∷ others) = ⊥
IsMerged Means (Some m) [] = ⊥
IsMerged Means (Some m) (ps ∷ others) = Means m (flat_map (λ x. x) (ps ∷ others))
