-- Sequences of records (Protocol Buffers encoding, "Message Structure"), and the first wrong record.
use Rattle.std.specs.Prelude.{◌≡◌, ◌⊎◌, ℕ, ◌+◌, ◌*◌, ◌<◌, ◌≤◌, List, [], ◌∷◌, ◌++◌, length, map, Result, Ok, Err}
use Rattle.proto_wire.specs.declared.fault.WireFault.{WireFault}
use Rattle.proto_wire.specs.declared.fault.WireFault.TheVariants.{Truncated, LongVarint, Group, ZeroField, BadText, Device, Memory}
use Rattle.proto_wire.specs.declared.record.WireRecord.{WireRecord}
use Rattle.proto_wire.specs.declared.record.WireValue.{WireValue}
use Rattle.proto_wire.specs.declared.record.WireValue.TheVariants.{Varint, Eight, Bytes, Four}
use Rattle.proto_wire.specs.Varints.{IsVarint, IsUnterminated, IsOverlong}

-- a record with its payload, which is empty if the wire type has no length
pub record PayloadRecord : Type 0 where
  pub wire : WireRecord
  pub payload : List ℕ

-- a valid field number
pub record IsField (n : ℕ) : Type 0 where
  pub some : 0 < n
  pub most : n ≤ 536870911

-- a key: the varint of a field number times 8 plus a wire type
pub record IsKey (bytes : List ℕ) (field kind : ℕ) : Type 0 where
  pub is_varint : IsVarint bytes (8 * field + kind)
  pub is_kind : kind < 8
  pub is_field : IsField field

-- what follows a key of this wire type: for type 0 a varint, for 1 eight bytes, for 2 a length and a payload of that many bytes, for 5 four
-- bytes
abbrev pub IsValue : WireValue → ℕ → List ℕ → List ℕ → List ℕ → Type 0
IsValue (Varint n) kind size content payload = (kind ≡ 0) × (size ≡ []) × IsVarint content n × (payload ≡ [])
IsValue Eight kind size content payload = (kind ≡ 1) × (size ≡ []) × (length content ≡ 8) × (payload ≡ [])
IsValue (Bytes count) kind size content payload = (kind ≡ 2) × IsVarint size count × (length content ≡ count) × (payload ≡ content)
IsValue Four kind size content payload = (kind ≡ 5) × (size ≡ []) × (length content ≡ 4) × (payload ≡ [])

-- the bytes, which begin at this offset, are this record: a key, a length if the wire type has one, and the content
pub record IsRecord (at : ℕ) (bytes : List ℕ) (p : PayloadRecord) : Type 0 where
  pub kind : ℕ
  pub key : List ℕ
  pub size : List ℕ
  pub content : List ℕ
  pub form : bytes ≡ key ++ (size ++ content)
  pub is_key : IsKey key p.wire.field kind
  pub is_value : IsValue p.wire.value kind size content p.payload
  pub at_key : p.wire.at ≡ at
  pub at_body : p.wire.body ≡ at + (length key + length size)

-- the bytes, which begin at this offset, are a sequence of these records
abbrev pub AreRecords : ℕ → List ℕ → List PayloadRecord → Type 0
AreRecords at bytes [] = bytes ≡ []
AreRecords at bytes (p ∷ ps) = (first rest : List ℕ) × (bytes ≡ first ++ rest) × IsRecord at first p × AreRecords (at + length first) rest ps

-- the bytes are a sequence of the records of this list
abbrev pub Records : List ℕ → List WireRecord → Type 0
Records bytes list = (pieces : List PayloadRecord) × AreRecords 0 bytes pieces × (list ≡ map (λ p. p.wire) pieces)

-- the bytes are a key of this wire type, followed by the rest
pub record HasKey (bytes : List ℕ) (kind : ℕ) (rest : List ℕ) : Type 0 where
  pub field : ℕ
  pub key : List ℕ
  pub form : bytes ≡ key ++ rest
  pub is_key : IsKey key field kind

-- the bytes end within the first record
pub data IsTruncated (bytes : List ℕ) : Type 0 where
  in_key : IsUnterminated bytes → IsTruncated bytes
  in_varint : (rest : List ℕ) → HasKey bytes 0 rest → IsUnterminated rest → IsTruncated bytes
  in_eight : (rest : List ℕ) → HasKey bytes 1 rest → length rest < 8 → IsTruncated bytes
  in_length : (rest : List ℕ) → HasKey bytes 2 rest → IsUnterminated rest → IsTruncated bytes
  in_payload : (size rest : List ℕ) (count : ℕ) → HasKey bytes 2 (size ++ rest) → IsVarint size count → length rest < count → IsTruncated bytes
  in_four : (rest : List ℕ) → HasKey bytes 5 rest → length rest < 4 → IsTruncated bytes

-- the key, the number or the length of the first record begins with ten bytes that have the continuation bit
pub data HasOverlongVarint (bytes : List ℕ) : Type 0 where
  as_key : IsOverlong bytes → HasOverlongVarint bytes
  as_varint : (rest : List ℕ) → HasKey bytes 0 rest → IsOverlong rest → HasOverlongVarint bytes
  as_length : (rest : List ℕ) → HasKey bytes 2 rest → IsOverlong rest → HasOverlongVarint bytes

-- the first key has wire type 3, 4, 6 or 7
pub record IsGroup (bytes : List ℕ) : Type 0 where
  pub kind : ℕ
  pub rest : List ℕ
  pub has_key : HasKey bytes kind rest
  pub no_value : (kind ≡ 3) ⊎ (kind ≡ 4) ⊎ (kind ≡ 6) ⊎ (kind ≡ 7)

-- the field number of the first key is 0 or above 536,870,911
pub record IsNoField (bytes : List ℕ) : Type 0 where
  pub number : ℕ
  pub kind : ℕ
  pub key : List ℕ
  pub rest : List ℕ
  pub form : bytes ≡ key ++ rest
  pub is_varint : IsVarint key (8 * number + kind)
  pub is_kind : kind < 8
  pub no_field : (number ≡ 0) ⊎ (536870911 < number)

-- the first record, whose key is at this offset, has this fault
abbrev pub IsWrongRecord : ℕ → List ℕ → WireFault → Type 0
IsWrongRecord at bytes (Truncated place) = (place ≡ at) × IsTruncated bytes
IsWrongRecord at bytes (LongVarint place) = (place ≡ at) × HasOverlongVarint bytes
IsWrongRecord at bytes (Group place) = (place ≡ at) × IsGroup bytes
IsWrongRecord at bytes (ZeroField place) = (place ≡ at) × IsNoField bytes
IsWrongRecord at bytes (BadText place) = ⊥
IsWrongRecord at bytes Device = ⊥
IsWrongRecord at bytes Memory = ⊥

-- the outcome of reading the first record, whose key is at this offset: the record and the remaining bytes, or the record's fault
abbrev pub IsFirst : ℕ → List ℕ → Result (PayloadRecord × List ℕ) WireFault → Type 0
IsFirst at bytes (Ok x) = (first : List ℕ) × (bytes ≡ first ++ x.1) × IsRecord at first x.0
IsFirst at bytes (Err fault) = IsWrongRecord at bytes fault

-- the bytes are these records, followed by a record with this fault
pub record IsStopped (at : ℕ) (bytes : List ℕ) (before : List PayloadRecord) (fault : WireFault) : Type 0 where
  pub good : List ℕ
  pub rest : List ℕ
  pub form : bytes ≡ good ++ rest
  pub are_records : AreRecords at good before
  pub some : 0 < length rest
  pub is_wrong : IsWrongRecord (at + length good) rest fault

-- the bytes are these records, followed by this rest, which begins at this offset
pub record IsSplit (start : ℕ) (bytes : List ℕ) (front : List PayloadRecord) (at : ℕ) (rest : List ℕ) : Type 0 where
  pub good : List ℕ
  pub form : bytes ≡ good ++ rest
  pub are_records : AreRecords start good front
  pub here : at ≡ start + length good

-- the outcome of bytes: a sequence of records, or the fault of the first wrong record
abbrev pub IsOutcome : List ℕ → Result (List WireRecord) WireFault → Type 0
IsOutcome bytes (Ok list) = Records bytes list
IsOutcome bytes (Err fault) = (before : List PayloadRecord) × IsStopped 0 bytes before fault
