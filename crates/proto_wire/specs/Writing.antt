-- The bytes that are written for a field: a minimal varint, or a length and a payload. There is one such form for each field.
use Rattle.std.specs.Prelude.{◌≡◌, ◌<◌, ◌^◌, ℕ, zero, suc, ◌+◌, ◌*◌, ℤ, pos, negsuc, List, [], ◌∷◌, ◌++◌, length, map}
use Rattle.std.specs.List.{flat_map}
use Rattle.std.specs.Int.{w64, cast_unsigned}
use Rattle.proto_wire.specs.declared.record.WireValue.TheVariants.{Varint, Bytes}
use Rattle.proto_wire.specs.Varints.{varint}
use Rattle.proto_wire.specs.Records.{PayloadRecord, IsField}
use Rattle.proto_wire.specs.Readings.{piece}

-- the content of a record: a number or a payload
pub data Content : Type 0 where
  Number : (n : ℕ) → Content
  Payload : (bytes : List ℕ) → Content

-- a field to be written: its number and its content
pub record Field : Type 0 where
  pub number : ℕ
  pub content : Content

-- the field k whose content is a varint of the number n
abbrev pub number_field : ℕ → ℕ → Field
number_field k n = record { number = k; content = Number n }

-- the field k whose content is a payload
abbrev pub payload_field : ℕ → List ℕ → Field
payload_field k bytes = record { number = k; content = Payload bytes }

-- the bytes of the key of this field number and wire type
abbrev pub key_of : ℕ → ℕ → List ℕ
key_of k kind = varint (8 * k + kind)

-- the bytes that precede a payload of this many bytes: a key and the length
abbrev pub head_of : ℕ → ℕ → List ℕ
head_of k count = key_of k 2 ++ varint count

-- the bytes of a field: a key, then a varint, or a length and a payload
abbrev pub spelled_as : ℕ → Content → List ℕ
spelled_as k (Number n) = key_of k 0 ++ varint n
spelled_as k (Payload bytes) = head_of k (length bytes) ++ bytes

-- the bytes that are written for a field
abbrev pub spelled : Field → List ℕ
spelled f = spelled_as f.number f.content

-- the bytes of these fields, concatenated
abbrev pub spelled_fields : List Field → List ℕ
spelled_fields fields = flat_map spelled fields

-- a number fits 64 bits, and so does a length
abbrev pub ContentFits : Content → Type 0
ContentFits (Number n) = n < 2 ^ 64
ContentFits (Payload bytes) = length bytes < 2 ^ 64

-- the field has a valid number, and its content fits
pub record FieldFits (f : Field) : Type 0 where
  pub is_field : IsField f.number
  pub content : ContentFits f.content

-- the record of a field k with this content, with its key at the offset `at`
abbrev pub placed : ℕ → ℕ → Content → PayloadRecord
placed at k (Number n) = piece k (Varint n) at (at + length (key_of k 0)) []
placed at k (Payload bytes) = piece k (Bytes (length bytes)) at (at + length (head_of k (length bytes))) bytes

-- the record of the field, with its key at this offset
abbrev pub piece_at : ℕ → Field → PayloadRecord
piece_at at f = placed at f.number f.content

-- the records of these fields, the first at this offset
abbrev pub pieces_at : ℕ → List Field → List PayloadRecord
pieces_at at [] = []
pieces_at at (f ∷ fs) = piece_at at f ∷ pieces_at (at + length (spelled f)) fs

-- the record has the content of the field, at whatever offset
abbrev pub CarriesContent : PayloadRecord → Content → Type 0
CarriesContent p (Number n) = p.wire.value ≡ Varint n
CarriesContent p (Payload bytes) = (p.wire.value ≡ Bytes (length bytes)) × (p.payload ≡ bytes)

pub record Carries (p : PayloadRecord) (f : Field) : Type 0 where
  pub number : p.wire.field ≡ f.number
  pub content : CarriesContent p f.content

-- each record has the number and the content of its field
abbrev pub CarryAll : List PayloadRecord → List Field → Type 0
CarryAll [] [] = Unit {0}
CarryAll [] (f ∷ fs) = ⊥
CarryAll (p ∷ ps) [] = ⊥
CarryAll (p ∷ ps) (f ∷ fs) = Carries p f × CarryAll ps fs

-- the 64 bits that encode a signed number; a negative one takes ten bytes
abbrev pub sign_extended_bits : ℤ → ℕ
sign_extended_bits z = cast_unsigned w64 z

-- the fields for a number: none if it is 0
abbrev pub number_fields : ℕ → ℤ → List Field
number_fields k (pos zero) = []
number_fields k (pos (suc n)) = number_field k (sign_extended_bits (pos (suc n))) ∷ []
number_fields k (negsuc n) = number_field k (sign_extended_bits (negsuc n)) ∷ []

-- the fields for a string: none if it is empty
abbrev pub text_fields : ℕ → List ℕ → List Field
text_fields k [] = []
text_fields k (b ∷ bytes) = payload_field k (b ∷ bytes) ∷ []

-- the payload of packed numbers: a varint for each
abbrev pub packed_payload : List ℤ → List ℕ
packed_payload zs = flat_map (λ z. varint (sign_extended_bits z)) zs

-- the fields for packed numbers: none if there are no numbers
abbrev pub packed_fields : ℕ → List ℤ → List Field
packed_fields k [] = []
packed_fields k (z ∷ zs) = payload_field k (packed_payload (z ∷ zs)) ∷ []

-- the fields for payloads: one for each, even an empty one
abbrev pub payload_fields : ℕ → List (List ℕ) → List Field
payload_fields k payloads = map (payload_field k) payloads
