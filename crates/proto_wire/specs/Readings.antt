-- The records of bytes as a function of the bytes, with the first fault. `AreRecords` and `IsStopped` are the corresponding relations.
use Rattle.std.specs.Prelude.{ℕ, zero, suc, ◌+◌, ◌-◌, ◌/◌, ◌%◌, ◌==◌, ◌&&◌, Bool, nat_lt, nat_le, List, [], ◌∷◌, length, take, drop, Option, Some, None, Result, Ok, Err, if◌then◌else◌}
use Rattle.std.specs.Borrow.{Bor}
use Rattle.proto_wire.specs.declared.fault.WireFault.{WireFault}
use Rattle.proto_wire.specs.declared.fault.WireFault.TheVariants.{Truncated, Group, ZeroField}
use Rattle.proto_wire.specs.declared.record.WireRecord.{WireRecord}
use Rattle.proto_wire.specs.declared.record.WireValue.{WireValue}
use Rattle.proto_wire.specs.declared.record.WireValue.TheVariants.{Varint, Eight, Bytes, Four}
use Rattle.proto_wire.specs.Faults.{◌>>=◌}
use Rattle.proto_wire.specs.Records.{PayloadRecord}
use Rattle.proto_wire.specs.Varints.{varint_in}

-- a record with its payload, from its field number, value, and the offsets of its key and its payload
abbrev pub piece : ℕ → WireValue → ℕ → ℕ → List ℕ → PayloadRecord
piece field value at body payload = record { wire = record { field = field; value = value; at = at; body = body }; payload = payload }

-- whether this is a valid field number
abbrev pub is_field : ℕ → Bool
is_field n = nat_lt 0 n && nat_le n 536870911

-- the record of a value of this many bytes without a length prefix, and the remaining bytes
abbrev pub fixed_in : ℕ → WireValue → ℕ → ℕ → ℕ → List ℕ → Result (PayloadRecord × List ℕ) WireFault
fixed_in count value field at body bytes = if nat_lt (length bytes) count then Err (Truncated at) else Ok (piece field value at body [], drop count bytes)

-- the record of a varint, and the remaining bytes
abbrev pub varint_value_in : ℕ → ℕ → ℕ → List ℕ → Result (PayloadRecord × List ℕ) WireFault
varint_value_in field at body bytes = do
  n ← varint_in 10 at bytes
  Ok (piece field (Varint n.0) at body [], n.1)

-- the record of a length and a payload of that many bytes, and the remaining bytes
abbrev pub payload_in : ℕ → ℕ → ℕ → List ℕ → Result (PayloadRecord × List ℕ) WireFault
payload_in field at body bytes = do
  n ← varint_in 10 at bytes
  if nat_lt (length n.1) n.0 then Err (Truncated at) else Ok (piece field (Bytes n.0) at (body + (length bytes - length n.1)) (take n.0 n.1), drop n.0 n.1)

-- the record of a value of this wire type, and the remaining bytes
unfoldable pub value_in : ℕ → ℕ → ℕ → ℕ → List ℕ → Result (PayloadRecord × List ℕ) WireFault
value_in kind field at body bytes =
    if kind == 0 then varint_value_in field at body bytes
    else (if kind == 1 then fixed_in 8 Eight field at body bytes
    else (if kind == 2 then payload_in field at body bytes
    else (if kind == 5 then fixed_in 4 Four field at body bytes
    else Err (Group at))))

-- the first record, whose key is at this offset, and the remaining bytes
unfoldable pub record_in : ℕ → List ℕ → Result (PayloadRecord × List ℕ) WireFault
record_in at bytes = do
  key ← varint_in 10 at bytes
  if is_field (key.0 / 8) then value_in (key.0 % 8) (key.0 / 8) at (at + (length bytes - length key.1)) key.1 else Err (ZeroField at)

-- a record followed by others, or the record's fault
abbrev pub followed : Result (PayloadRecord × List ℕ) WireFault → (List ℕ → List PayloadRecord × Option WireFault) → List PayloadRecord × Option WireFault
followed (Ok first) others = (first.0 ∷ (others first.1).0, (others first.1).1)
followed (Err fault) others = ([], Some fault)

-- the records of the bytes, at most this many, up to the first wrong one, and its fault
unfoldable pub payload_records_from : ℕ → ℕ → List ℕ → List PayloadRecord × Option WireFault
payload_records_from most at [] = ([], None)
payload_records_from zero at (b ∷ bytes) = ([], None)
payload_records_from (suc most) at (b ∷ bytes) = followed (record_in at (b ∷ bytes)) (λ rest. payload_records_from most (at + (suc (length bytes) - length rest)) rest)

-- the records of the bytes, which begin at this offset, up to the first wrong one, and its fault
unfoldable pub payload_records : ℕ → List ℕ → List PayloadRecord × Option WireFault
payload_records at bytes = payload_records_from (length bytes) at bytes

-- a record with its payload, and the remaining bytes
abbrev pub payload_record_view : WireRecord × Bor (List ℕ) × Bor (List ℕ) → PayloadRecord × List ℕ
payload_record_view x = (record { wire = x.0; payload = x.1.now }, x.2.now)
