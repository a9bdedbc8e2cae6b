-- One more record.
use Rattle.std.proofs.Common.{◌≡◌, ℕ, List, [], ◌∷◌, ◌++◌, map, Option, Some, None, refl, sym, ap, ◌∙◌}
use Rattle.std.specs.Prelude.{pos, option_map}
use Rattle.std.proofs.lemmas.List.{map-append}
use Rattle.proto_wire.specs.Records.{PayloadRecord}
use Rattle.proto_wire.specs.Messages.{field_values, if_field, latest, number_in, numbers_in, bytes_in, nested_records, MeansEach, AddsMessages, IsMerged}
use Rattle.proto_wire.proofs.MessageSteps.{field_values-push, latest-push}
use Rattle.scip_index.specs.Plain.{OccurrenceModel, SymbolModel, DocumentModel, ToolModel, MetadataModel, IndexModel}
use Rattle.scip_index.specs.Meaning.{occurrence_of, symbol_of, document_of, tool_of, merged, metadata_of, index_of}

-- what a message with this model means
abbrev pub Says : {M V : Type 0} → (M → V) → (List PayloadRecord → V) → M → List PayloadRecord → Type 0
Says view of m pieces = view m ≡ of pieces

MeansEach-map : {M V : Type 0} (view : M → V) (of : List PayloadRecord → V) (ms : List M) (given : List (List PayloadRecord)) → MeansEach (Says view of) ms given → map view ms ≡ map of given
MeansEach-map view of [] [] h = refl
MeansEach-map view of [] (ps ∷ given) h = absurd h
MeansEach-map view of (m ∷ ms) [] h = absurd h
MeansEach-map view of (m ∷ ms) (ps ∷ given) h = rw (h.0, MeansEach-map view of ms given h.1) refl

pub AddsMessages-map : {M V : Type 0} (view : M → V) (of : List PayloadRecord → V) (given : List (List PayloadRecord)) (old new : List M) → AddsMessages (Says view of) given old new → map view new ≡ map view old ++ map of given
AddsMessages-map view of given old new h = rw (h.1, map-append, MeansEach-map view of h.0 given h.2) refl

pub IsMerged-from : {M V : Type 0} (view : M → V) (of : List PayloadRecord → V) (o : Option M) (given : List (List PayloadRecord)) → IsMerged (Says view of) o given → option_map view o ≡ merged of given
IsMerged-from view of None [] h = refl
IsMerged-from view of None (ps ∷ given) h = absurd h
IsMerged-from view of (Some m) [] h = absurd h
IsMerged-from view of (Some m) (ps ∷ given) h = ap Some h

pub IsMerged-to : {M V : Type 0} (view : M → V) (of : List PayloadRecord → V) (o : Option M) (given : List (List PayloadRecord)) → option_map view o ≡ merged of given → IsMerged (Says view of) o given
IsMerged-to view of None [] h = tt
IsMerged-to view of None (ps ∷ given) h = absurd cc
IsMerged-to view of (Some m) [] h = absurd cc
IsMerged-to view of (Some m) (ps ∷ given) h = cc

-- an occurrence and one more record
abbrev pub occurrence_and : OccurrenceModel → PayloadRecord → OccurrenceModel
occurrence_and o p = record {
  range = o.range ++ if_field 1 p.wire (numbers_in p);
  symbol = latest o.symbol (if_field 2 p.wire (bytes_in p));
  symbol_roles = latest o.symbol_roles (if_field 3 p.wire (number_in p));
  enclosing_range = o.enclosing_range ++ if_field 7 p.wire (numbers_in p);
}

pub occurrence-more : (front : List PayloadRecord) (p : PayloadRecord) (old new : OccurrenceModel) → old ≡ occurrence_of front → new ≡ occurrence_and old p → new ≡ occurrence_of (front ++ p ∷ [])
occurrence-more front p old new h step = step ∙ ap (λ o. occurrence_and o p) h ∙ sym (rw (field_values-push 1 numbers_in front p, latest-push 2 [] bytes_in front p, latest-push 3 (pos 0) number_in front p, field_values-push 7 numbers_in front p) refl)

abbrev pub symbol_and : SymbolModel → PayloadRecord → SymbolModel
symbol_and s p = record {
  symbol = latest s.symbol (if_field 1 p.wire (bytes_in p));
  display_name = latest s.display_name (if_field 6 p.wire (bytes_in p));
}

pub symbol-more : (front : List PayloadRecord) (p : PayloadRecord) (old new : SymbolModel) → old ≡ symbol_of front → new ≡ symbol_and old p → new ≡ symbol_of (front ++ p ∷ [])
symbol-more front p old new h step = step ∙ ap (λ o. symbol_and o p) h ∙ sym (rw (latest-push 1 [] bytes_in front p, latest-push 6 [] bytes_in front p) refl)

pub mapped-push : {V : Type 0} (k : ℕ) (of : List PayloadRecord → V) (front : List PayloadRecord) (p : PayloadRecord) → map of (field_values k nested_records (front ++ p ∷ [])) ≡ map of (field_values k nested_records front) ++ map of (if_field k p.wire (nested_records p))
mapped-push k of front p = ap (map of) (field_values-push k nested_records front p) ∙ map-append of (field_values k nested_records front) (if_field k p.wire (nested_records p))

abbrev pub document_and : DocumentModel → PayloadRecord → DocumentModel
document_and d p = record {
  relative_path = latest d.relative_path (if_field 1 p.wire (bytes_in p));
  occurrences = d.occurrences ++ map occurrence_of (if_field 2 p.wire (nested_records p));
  symbols = d.symbols ++ map symbol_of (if_field 3 p.wire (nested_records p));
  language = latest d.language (if_field 4 p.wire (bytes_in p));
  position_encoding = latest d.position_encoding (if_field 6 p.wire (number_in p));
}

pub document-more : (front : List PayloadRecord) (p : PayloadRecord) (old new : DocumentModel) → old ≡ document_of front → new ≡ document_and old p → new ≡ document_of (front ++ p ∷ [])
document-more front p old new h step =
    step ∙ ap (λ o. document_and o p) h ∙ sym (rw (latest-push 1 [] bytes_in front p, mapped-push 2 occurrence_of front p, mapped-push 3 symbol_of front p, latest-push 4 [] bytes_in front p, latest-push 6 (pos 0) number_in front p) refl)

abbrev pub tool_and : ToolModel → PayloadRecord → ToolModel
tool_and t p = record {
  name = latest t.name (if_field 1 p.wire (bytes_in p));
  version = latest t.version (if_field 2 p.wire (bytes_in p));
  arguments = t.arguments ++ if_field 3 p.wire (bytes_in p);
}

pub tool-more : (front : List PayloadRecord) (p : PayloadRecord) (old new : ToolModel) → old ≡ tool_of front → new ≡ tool_and old p → new ≡ tool_of (front ++ p ∷ [])
tool-more front p old new h step = step ∙ ap (λ o. tool_and o p) h ∙ sym (rw (latest-push 1 [] bytes_in front p, latest-push 2 [] bytes_in front p, field_values-push 3 bytes_in front p) refl)

-- metadata and one more record, if the tool is present already
abbrev pub metadata_and : MetadataModel → PayloadRecord → Option ToolModel → MetadataModel
metadata_and m p tool = record {
  version = latest m.version (if_field 1 p.wire (number_in p));
  tool_info = tool;
  project_root = latest m.project_root (if_field 3 p.wire (bytes_in p));
  text_document_encoding = latest m.text_document_encoding (if_field 4 p.wire (number_in p));
}

pub metadata-more : (front : List PayloadRecord) (p : PayloadRecord) (old new : MetadataModel) (tool : Option ToolModel) → old ≡ metadata_of front → tool ≡ merged tool_of (field_values 2 nested_records front ++ if_field 2 p.wire (nested_records p)) → new ≡ metadata_and old p tool
    → new ≡ metadata_of (front ++ p ∷ [])
metadata-more front p old new tool h t step =
    step ∙ ap (metadata_and old p) t ∙ ap (λ o. metadata_and o p (merged tool_of (field_values 2 nested_records front ++ if_field 2 p.wire (nested_records p)))) h
    ∙ sym (rw (latest-push 1 (pos 0) number_in front p, field_values-push 2 nested_records front p, latest-push 3 [] bytes_in front p, latest-push 4 (pos 0) number_in front p) refl)

abbrev pub index_and : IndexModel → PayloadRecord → Option MetadataModel → IndexModel
index_and i p metadata = record {
  metadata = metadata;
  documents = i.documents ++ map document_of (if_field 2 p.wire (nested_records p));
  external_symbols = i.external_symbols ++ map symbol_of (if_field 3 p.wire (nested_records p));
}

pub index-more : (front : List PayloadRecord) (p : PayloadRecord) (old new : IndexModel) (metadata : Option MetadataModel) → old ≡ index_of front → metadata ≡ merged metadata_of (field_values 1 nested_records front ++ if_field 1 p.wire (nested_records p)) → new ≡ index_and old p metadata
    → new ≡ index_of (front ++ p ∷ [])
index-more front p old new metadata h t step =
    step ∙ ap (index_and old p) t ∙ ap (λ o. index_and o p (merged metadata_of (field_values 1 nested_records front ++ if_field 1 p.wire (nested_records p)))) h
    ∙ sym (rw (field_values-push 1 nested_records front p, mapped-push 2 document_of front p, mapped-push 3 symbol_of front p) refl)
