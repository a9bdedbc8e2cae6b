-- What is written decodes to itself, record by record.
use Rattle.std.proofs.Common.{◌≡◌, ℕ, ◌+◌, ◌*◌, ◌^◌, ◌<◌, List, [], ◌∷◌, ◌++◌, length, Ok, refl, sym, ◌∙◌, subst, append_assoc, arith}
use Rattle.std.specs.List.{AllByRecursion}
use Rattle.std.proofs.lemmas.List.{append-nil, length-append}
use Rattle.proto_wire.specs.Varints.{varint, IsVarint}
use Rattle.proto_wire.specs.Records.{IsField, IsKey, IsRecord, AreRecords}
use Rattle.proto_wire.specs.Readings.{record_in}
use Rattle.proto_wire.specs.Writing.{Content, Number, Payload, Field, key_of, spelled_as, spelled, spelled_fields, ContentFits, FieldFits, placed, piece_at, pieces_at, Carries, CarryAll}
use Rattle.proto_wire.proofs.VarintLaws.{varint-again}
use Rattle.proto_wire.proofs.VarintReadings.{VarintRead, varint_read}
use Rattle.proto_wire.proofs.RecordReadings.{record_found}

-- the bytes that are written for a number are a varint of it
pub varint_is : (n : ℕ) → n < 2 ^ 64 → IsVarint (varint n) n
varint_is n fits =
    let read = subst (VarintRead 0 (varint n ++ [])) (varint-again 0 n [] fits) (varint_read 0 (varint n ++ [])) in
    subst (λ (bytes : List ℕ). IsVarint bytes n) (sym (append-nil read.0) ∙ sym read.1 ∙ append-nil (varint n)) read.2

key_is : (k kind : ℕ) → IsField k → kind < 8 → IsKey (key_of k kind) k kind
key_is k kind is_field is_kind =
    let most = is_field.most in
    record { is_varint = varint_is (8 * k + kind) (omega arith); is_kind = is_kind; is_field = is_field }

-- a record that is written is the record of its field
pub record_again : (at : ℕ) (f : Field) → FieldFits f → IsRecord at (spelled f) (piece_at at f)
record_again at f fits = go f.number f.content fits.is_field fits.content
  where
    go : (k : ℕ) (content : Content) → IsField k → ContentFits content → IsRecord at (spelled_as k content) (placed at k content)
    go k (Number n) is_field fits = record {
      kind = 0;
      key = key_of k 0;
      size = [];
      content = varint n;
      form = refl;
      is_key = key_is k 0 is_field (omega arith);
      is_value = (refl, refl, varint_is n fits, refl);
      at_key = refl;
      at_body = omega arith;
    }
    go k (Payload bytes) is_field fits = record {
      kind = 2;
      key = key_of k 2;
      size = varint (length bytes);
      content = bytes;
      form = append_assoc (key_of k 2) (varint (length bytes)) bytes;
      is_key = key_is k 2 is_field (omega arith);
      is_value = (refl, varint_is (length bytes) fits, refl, refl);
      at_key = refl;
      at_body = omega (arith, length-append (key_of k 2) (varint (length bytes)));
    }

-- the record is read from its bytes, whatever follows them
pub record-again : (at : ℕ) (f : Field) (rest : List ℕ) → FieldFits f → record_in at (spelled f ++ rest) ≡ Ok (piece_at at f, rest)
record-again at f rest fits = record_found at (spelled f) rest (piece_at at f) (record_again at f fits)

-- fields that are written are a sequence of records
pub records_again : (at : ℕ) (fs : List Field) → AllByRecursion FieldFits fs → AreRecords at (spelled_fields fs) (pieces_at at fs)
records_again at [] fits = refl
records_again at (f ∷ fs) fits = (spelled f, spelled_fields fs, refl, record_again at f fits.0, records_again (at + length (spelled f)) fs fits.1)

-- each record carries its field
pub carry_again : (at : ℕ) (fs : List Field) → CarryAll (pieces_at at fs) fs
carry_again at [] = tt
carry_again at (f ∷ fs) = (go f.number f.content, carry_again (at + length (spelled f)) fs)
  where
    go : (k : ℕ) (content : Content) → Carries (placed at k content) (record { number = k; content = content })
    go k (Number n) = record { number = refl; content = refl }
    go k (Payload bytes) = record { number = refl; content = (refl, refl) }
