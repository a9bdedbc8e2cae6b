-- What checked bytes keep: they mean what their records say, and the paths of their documents and the symbols of the occurrences are UTF-8.
use Rattle.std.proofs.Common.{◌≡◌, ℕ, List, [], ◌∷◌, ◌++◌, Option, Some, None, Result, Ok, Err, refl, sym, subst, inl, inr}
use Rattle.std.specs.Prelude.{◌==◌, IfErr, OnOk}
use Rattle.std.specs.List.{AllByRecursion}
use Rattle.std.specs.Str.{IsUtf8, is_utf8}
use Rattle.std.proofs.lemmas.Bool.{cases_Bool}
use Rattle.std.proofs.lemmas.Str.{IsUtf8-from_ascii, IsUtf8-from_is_utf8}
use Rattle.std.proofs.lemmas.Str.Ascii.{IsAscii-nil}
use Rattle.proto_wire.specs.declared.fault.WireFault.{WireFault}
use Rattle.proto_wire.specs.declared.fault.WireFault.TheVariants.{BadText}
use Rattle.proto_wire.specs.declared.record.WireValue.{WireValue}
use Rattle.proto_wire.specs.declared.record.WireValue.TheVariants.{Varint, Eight, Bytes, Four}
use Rattle.proto_wire.specs.Faults.{IsFaultOrMemory, UnlessMemory}
use Rattle.proto_wire.specs.Records.{PayloadRecord}
use Rattle.proto_wire.specs.Readings.{payload_records}
use Rattle.proto_wire.specs.Messages.{value_bytes, bytes_in, field_values, fault_of, field_fault, first_of, if_field, latest, message_fault, value_message_fault, numbers_fault, nested_records, value_records, text_fault, value_text_fault, IsClean, IsFirstFault}
use Rattle.proto_wire.proofs.FaultLaws.{UnlessMemory-then}
use Rattle.proto_wire.proofs.MessageLaws.{first_fault_iff, no_fault_iff}
use Rattle.proto_wire.proofs.PieceReadings.{records_found}
use Rattle.scip_index.specs.Meaning.{document_fault, index_fault, index_of, metadata_fault, occurrence_fault, symbol_fault, Means}
use Rattle.scip_index.proofs.OutcomeLaws.{means_from}

-- bytes without a fault encode what their records determine
pub checked_means : (bytes : List ℕ) (result : Result (Unit {0}) WireFault) → OnOk result (fault_of index_fault 0 bytes ≡ None) → OnOk result (Means bytes (index_of (payload_records 0 bytes).0))
checked_means bytes (Ok x) clean = means_from bytes (index_of (payload_records 0 bytes).0) clean refl
checked_means bytes (Err fault) clean = tt

pub checked_fault : (bytes : List ℕ) (result : Result (Unit {0}) WireFault) → IfErr result (λ e. IsFaultOrMemory e (fault_of index_fault 0 bytes)) → IfErr result (λ e. UnlessMemory e (IsFirstFault index_fault 0 bytes e))
checked_fault bytes (Ok x) err = tt
checked_fault bytes (Err fault) err = UnlessMemory-then fault err (λ e. (first_fault_iff index_fault 0 bytes fault).0 e)

-- ---- paths

former : (first later : Option WireFault) → first_of first later ≡ None → first ≡ None
former None later e = refl
former (Some fault) later e = absurd cc

latter : (first later : Option WireFault) → first_of first later ≡ None → later ≡ None
latter None later e = e
latter (Some fault) later e = absurd cc

-- the records of clean bytes have no fault inside
clean_records : (inside : PayloadRecord → Option WireFault) (start : ℕ) (bytes : List ℕ) → fault_of inside start bytes ≡ None → IsClean inside (payload_records start bytes).0
clean_records inside start bytes clean =
    let h = (no_fault_iff inside start bytes).0 clean in
    subst (λ (x : List PayloadRecord × Option WireFault). IsClean inside x.0) (sym (records_found start bytes h.0 h.1)) h.2

pub all_append : {X : Type 0} (P : X → Type 0) (xs ys : List X) → AllByRecursion P xs → AllByRecursion P ys → AllByRecursion P (xs ++ ys)
all_append P [] ys a b = b
all_append P (x ∷ xs) ys a b = (a.0, all_append P xs ys a.1 b)

text_given : (value : WireValue) (at : ℕ) (payload : List ℕ) → value_text_fault value at payload ≡ None → AllByRecursion IsUtf8 (value_bytes value payload)
text_given (Varint n) at payload e = tt
text_given Eight at payload e = tt
text_given (Bytes count) at payload e = elim (cases_Bool (is_utf8 payload)) [
  | inl good ↦ (IsUtf8-from_is_utf8 payload good, tt)
  | inr bad ↦ let no : Some (BadText at) ≡ None = rw bad at e in absurd cc
]
text_given Four at payload e = tt

text_of_field : (k : ℕ) (p : PayloadRecord) → field_fault k p.wire (text_fault p) ≡ None → AllByRecursion IsUtf8 (if_field k p.wire (bytes_in p))
unfolding field_fault if_field
text_of_field k p e = elim (cases_Bool (p.wire.field == k)) [
  | inl here ↦ rw here (text_given p.wire.value p.wire.at p.payload (rw here at e))
  | inr other ↦ rw other tt
]

texts_of_document : (pieces : List PayloadRecord) → IsClean document_fault pieces → AllByRecursion IsUtf8 (field_values 1 bytes_in pieces)
unfolding field_values
texts_of_document [] clean = tt
texts_of_document (p ∷ pieces) clean =
    all_append IsUtf8 (if_field 1 p.wire (bytes_in p)) (field_values 1 bytes_in pieces)
    (text_of_field 1 p (former (field_fault 1 p.wire (text_fault p)) (first_of (field_fault 2 p.wire (message_fault occurrence_fault p)) (first_of (field_fault 3 p.wire (message_fault symbol_fault p)) (field_fault 4 p.wire (text_fault p)))) clean.0))
    (texts_of_document pieces clean.1)

latest_text : (old : List ℕ) (texts : List (List ℕ)) → IsUtf8 old → AllByRecursion IsUtf8 texts → IsUtf8 (latest old texts)
latest_text old [] h all = h
latest_text old (t ∷ texts) h all = latest_text t texts all.0 all.1

abbrev pub HasPathText : List PayloadRecord → Type 0
HasPathText pieces = IsUtf8 (latest [] (field_values 1 bytes_in pieces))

path_text : (pieces : List PayloadRecord) → IsClean document_fault pieces → HasPathText pieces
path_text pieces clean = latest_text [] (field_values 1 bytes_in pieces) (IsUtf8-from_ascii [] IsAscii-nil) (texts_of_document pieces clean)

-- ---- symbols

texts_of_occurrence : (pieces : List PayloadRecord) → IsClean occurrence_fault pieces → AllByRecursion IsUtf8 (field_values 2 bytes_in pieces)
unfolding field_values
texts_of_occurrence [] clean = tt
texts_of_occurrence (p ∷ pieces) clean =
    let behind = first_of (field_fault 2 p.wire (text_fault p)) (field_fault 7 p.wire (numbers_fault p)) in
    all_append IsUtf8 (if_field 2 p.wire (bytes_in p)) (field_values 2 bytes_in pieces)
    (text_of_field 2 p (former (field_fault 2 p.wire (text_fault p)) (field_fault 7 p.wire (numbers_fault p)) (latter (field_fault 1 p.wire (numbers_fault p)) behind clean.0))) (texts_of_occurrence pieces clean.1)

abbrev pub HasSymbolText : List PayloadRecord → Type 0
HasSymbolText pieces = IsUtf8 (latest [] (field_values 2 bytes_in pieces))

symbol_text : (pieces : List PayloadRecord) → IsClean occurrence_fault pieces → HasSymbolText pieces
symbol_text pieces clean = latest_text [] (field_values 2 bytes_in pieces) (IsUtf8-from_ascii [] IsAscii-nil) (texts_of_occurrence pieces clean)

-- ---- nested messages

-- a property of the clean records of a message holds for the records of a nested message of a field
module _ (inside : PayloadRecord → Option WireFault) (Has : List PayloadRecord → Type 0) (has : (pieces : List PayloadRecord) → IsClean inside pieces → Has pieces) where
  message_given : (value : WireValue) (body : ℕ) (payload : List ℕ) → value_message_fault inside value body payload ≡ None → AllByRecursion Has (value_records value body payload)
  message_given (Varint n) body payload e = tt
  message_given Eight body payload e = tt
  message_given (Bytes count) body payload e = (has (payload_records body payload).0 (clean_records inside body payload e), tt)
  message_given Four body payload e = tt

  message_of_field : (k : ℕ) (p : PayloadRecord) → field_fault k p.wire (message_fault inside p) ≡ None → AllByRecursion Has (if_field k p.wire (nested_records p))
  unfolding field_fault if_field
  message_of_field k p e = elim (cases_Bool (p.wire.field == k)) [
    | inl here ↦ rw here (message_given p.wire.value p.wire.body p.payload (rw here at e))
    | inr other ↦ rw other tt
  ]

abbrev pub HaveSymbolTexts : List PayloadRecord → Type 0
HaveSymbolTexts pieces = AllByRecursion HasSymbolText (field_values 2 nested_records pieces)

symbol_texts : (pieces : List PayloadRecord) → IsClean document_fault pieces → HaveSymbolTexts pieces
unfolding field_values
symbol_texts [] clean = tt
symbol_texts (p ∷ pieces) clean =
    let last = first_of (field_fault 3 p.wire (message_fault symbol_fault p)) (field_fault 4 p.wire (text_fault p)) in
    let both = latter (field_fault 1 p.wire (text_fault p)) (first_of (field_fault 2 p.wire (message_fault occurrence_fault p)) last) clean.0 in
    all_append HasSymbolText (if_field 2 p.wire (nested_records p)) (field_values 2 nested_records pieces)
    (message_of_field occurrence_fault HasSymbolText symbol_text 2 p (former (field_fault 2 p.wire (message_fault occurrence_fault p)) last both)) (symbol_texts pieces clean.1)

documents_have : (Has : List PayloadRecord → Type 0) → ((pieces : List PayloadRecord) → IsClean document_fault pieces → Has pieces) → (pieces : List PayloadRecord) → IsClean index_fault pieces → AllByRecursion Has (field_values 2 nested_records pieces)
unfolding field_values
documents_have Has has [] clean = tt
documents_have Has has (p ∷ pieces) clean =
    let behind = first_of (field_fault 2 p.wire (message_fault document_fault p)) (field_fault 3 p.wire (message_fault symbol_fault p)) in
    let both = latter (field_fault 1 p.wire (message_fault metadata_fault p)) behind clean.0 in
    all_append Has (if_field 2 p.wire (nested_records p)) (field_values 2 nested_records pieces)
    (message_of_field document_fault Has has 2 p (former (field_fault 2 p.wire (message_fault document_fault p)) (field_fault 3 p.wire (message_fault symbol_fault p)) both))
    (documents_have Has has pieces clean.1)

-- the paths of the documents of bytes that encode an index are UTF-8
pub paths_are_texts : (bytes : List ℕ) → fault_of index_fault 0 bytes ≡ None → AllByRecursion HasPathText (field_values 2 nested_records (payload_records 0 bytes).0)
paths_are_texts bytes clean = documents_have HasPathText path_text (payload_records 0 bytes).0 (clean_records index_fault 0 bytes clean)

-- the symbols of their occurrences are UTF-8 too
pub symbols_are_texts : (bytes : List ℕ) → fault_of index_fault 0 bytes ≡ None → AllByRecursion HaveSymbolTexts (field_values 2 nested_records (payload_records 0 bytes).0)
symbols_are_texts bytes clean = documents_have HaveSymbolTexts symbol_texts (payload_records 0 bytes).0 (clean_records index_fault 0 bytes clean)
