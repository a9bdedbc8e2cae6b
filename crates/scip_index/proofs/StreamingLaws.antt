-- A record carries at most one message of a field; the state of a reader at the start and at the end of the bytes.
use Rattle.std.proofs.Common.{◌≡◌, ◌<◌, ◌≤◌, ◌++◌, ◌∷◌, [], ℕ, suc, true, false, List, take, length, map, Option, Some, None, refl, sym, ap, subst, ◌∙◌, inl, inr, arith}
use Rattle.std.specs.Prelude.{◌==◌, IfNone, IfSome}
use Rattle.std.specs.Option.{is_some, option_to_list}
use Rattle.std.proofs.Math.Seq.{take-append_seam}
use Rattle.std.proofs.lemmas.Bool.{cases_Bool}
use Rattle.std.proofs.lemmas.List.{append-nil, length-append}
use Rattle.proto_wire.specs.declared.fault.WireFault.{WireFault}
use Rattle.proto_wire.specs.declared.record.WireValue.{WireValue}
use Rattle.proto_wire.specs.declared.record.WireValue.TheVariants.{Varint, Eight, Bytes, Four}
use Rattle.proto_wire.specs.Records.{PayloadRecord, IsSplit}
use Rattle.proto_wire.specs.Readings.{payload_records}
use Rattle.proto_wire.specs.Messages.{AddsMessages, field_values, if_field, nested_records, value_records, IsClean, MeansEach}
use Rattle.proto_wire.proofs.PieceReadings.{records_found}
use Rattle.proto_wire.proofs.RowLaws.{IsSplit-start, IsSplit-end}
use Rattle.scip_index.specs.declared.index.Document.{Document}
use Rattle.scip_index.specs.Plain.{document_model, DocumentModel, IndexModel, MetadataModel, SymbolModel}
use Rattle.scip_index.specs.Meaning.{index_fault, index_of, Means}
use Rattle.scip_index.specs.Streaming.{documents_in, given, HasDocuments, IsReaderAt}

each_length : {M : Type 0} (Means : M → List PayloadRecord → Type 0) (ms : List M) (given : List (List PayloadRecord)) → MeansEach Means ms given → length ms ≡ length given
each_length Means [] [] h = refl
each_length Means [] (ps ∷ given) h = absurd h
each_length Means (m ∷ ms) [] h = absurd h
each_length Means (m ∷ ms) (ps ∷ given) h = ap (λ (n : ℕ). suc n) (each_length Means ms given h.1)

inside_one : (value : WireValue) (body : ℕ) (payload : List ℕ) → length (value_records value body payload) ≤ 1
inside_one (Varint n) body payload = omega arith
inside_one Eight body payload = omega arith
inside_one (Bytes count) body payload = omega arith
inside_one Four body payload = omega arith

given_one : (k : ℕ) (p : PayloadRecord) → length (if_field k p.wire (nested_records p)) ≤ 1
unfolding if_field
given_one k p =
    elim (cases_Bool (p.wire.field == k)) [
      | inl e ↦ rw e (inside_one p.wire.value p.wire.body p.payload)
      | inr e ↦ rw e (omega arith)
    ]

pub at_most_one : {M : Type 0} {Means : M → List PayloadRecord → Type 0} (k : ℕ) (p : PayloadRecord) (new : List M) → AddsMessages Means (if_field k p.wire (nested_records p)) [] new → length new ≤ 1
at_most_one {M} {Means} k p new h = omega (arith, ap length h.1, each_length Means h.0 (if_field k p.wire (nested_records p)) h.2, given_one k p)

pub not_none : {X : Type 0} (o : Option X) (P : Type 0) → true ≡ is_some o → IfNone o P
not_none None P e = absurd cc
not_none (Some x) P e = tt

pub none-then : {X : Type 0} (o : Option X) (P Q : Type 0) → IfNone o P → (P → Q) → IfNone o Q
none-then None P Q h go = go h
none-then (Some x) P Q h go = tt

pub no_value : {X : Type 0} (o : Option X) → false ≡ is_some o → option_to_list o ≡ []
no_value None e = refl
no_value (Some x) e = absurd cc

-- the bytes that are read
read_bytes : (bytes : List ℕ) (front : List PayloadRecord) (at : ℕ) (rest : List ℕ) (r : IsSplit 0 bytes front at rest) → take at bytes ≡ r.good
read_bytes bytes front at rest r =
    let here : at ≡ length r.good = omega (arith, r.here) in
    ap (λ (n : ℕ). take n bytes) here ∙ ap (λ (bs : List ℕ). take (length r.good) bs) r.form ∙ take-append_seam r.good rest

-- their records
pub read_so_far : (bytes : List ℕ) (front : List PayloadRecord) (at : ℕ) (rest : List ℕ) → IsSplit 0 bytes front at rest → payload_records 0 (take at bytes) ≡ (front, None)
read_so_far bytes front at rest r = ap (payload_records 0) (read_bytes bytes front at rest r) ∙ records_found 0 r.good front r.are_records

pub given_is : (bytes : List ℕ) (at : ℕ) (error : Option WireFault) (front : List PayloadRecord) (rest : List ℕ) → IsSplit 0 bytes front at rest → given (record { bytes = bytes; at = at; error = error }) ≡ documents_in front
given_is bytes at error front rest r = ap (λ (x : List PayloadRecord × Option WireFault). documents_in x.0) (read_so_far bytes front at rest r)

-- the bytes that are read encode an index with the documents that were returned
pub read_means : (bytes : List ℕ) (at : ℕ) (error : Option WireFault) (front : List PayloadRecord) (rest : List ℕ) → IsSplit 0 bytes front at rest → IsClean index_fault front
    → HasDocuments (take at bytes) (given (record { bytes = bytes; at = at; error = error }))
read_means bytes at error front rest r clean =
    subst (λ (read : List ℕ). HasDocuments read (given (record { bytes = bytes; at = at; error = error }))) (sym (read_bytes bytes front at rest r))
    (index_of front, record { pieces = front; are_records = r.are_records; clean = clean; index_is = refl }, sym (given_is bytes at error front rest r))

-- at the end the bytes encode an index with what the reader stores and has returned
pub ended : (bytes : List ℕ) (front : List PayloadRecord) (at : ℕ) (rest : List ℕ) (metadata : Option MetadataModel) (externals : List SymbolModel) → IsReaderAt bytes front at rest metadata externals → length rest ≡ 0
    → (i : IndexModel) × Means bytes i × (i.metadata ≡ metadata) × (i.external_symbols ≡ externals) × (i.documents ≡ documents_in front)
ended bytes front at rest metadata externals s none = (
  index_of front,
  record { pieces = front; are_records = IsSplit-end 0 bytes front at rest s.reached none; clean = s.clean; index_is = refl },
  sym s.metadata_is,
  sym s.externals_are,
  refl,
)

-- a reader with fewer remaining bytes has read on
pub onward : {X : Type 0} (bytes : List ℕ) (front more : List PayloadRecord) (at next : ℕ) (rest after : List ℕ) (document : Option X) → IsSplit 0 bytes front at rest → IsSplit 0 bytes more next after
    → IfSome document (λ _. length after < length rest) → IfSome document (λ _. (at < next) × (next ≤ length bytes))
onward bytes front more at next rest after None r s h = tt
onward bytes front more at next rest after (Some x) r s h =
    let old = ap length r.form ∙ length-append r.good rest in
    let new = ap length s.form ∙ length-append s.good after in
    (omega (arith, old, new, r.here, s.here, h), omega (arith, new, s.here))

-- a reader that has read nothing
pub fresh : (bytes : List ℕ) → IsReaderAt bytes [] 0 bytes None []
unfolding field_values
fresh bytes = record { reached = IsSplit-start 0 bytes; clean = tt; metadata_is = refl; externals_are = refl }

-- if there is no further document, all documents were returned
pub all_given : (bytes : List ℕ) (front more : List PayloadRecord) (at : ℕ) (rest : List ℕ) (metadata : Option MetadataModel) (externals : List SymbolModel) (document : Option Document) (before : List DocumentModel) → IsReaderAt bytes (front ++ more) at rest metadata externals
    → documents_in (front ++ more) ≡ documents_in front ++ map document_model (option_to_list document) → IfNone document (length rest ≡ 0) → before ≡ documents_in front → IfNone document (HasDocuments bytes before)
all_given bytes front more at rest metadata externals None before s d none b =
    let e = ended bytes (front ++ more) at rest metadata externals s none in
    (e.0, e.1, e.4 ∙ d ∙ append-nil (documents_in front) ∙ sym b)
all_given bytes front more at rest metadata externals (Some x) before s d none b = tt

pub none_given : (bytes : List ℕ) → given (record { bytes = bytes; at = 0; error = None }) ≡ []
unfolding field_values
none_given bytes = given_is bytes 0 None [] bytes (IsSplit-start 0 bytes)
