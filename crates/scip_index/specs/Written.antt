-- The one list of bytes that is written for a message: fields in ascending order of their numbers, and none that is zero or empty.
use Rattle.std.specs.Prelude.{ℕ, List, ◌++◌, map, Option}
use Rattle.std.specs.List.{flat_map}
use Rattle.std.specs.Option.{option_to_list}
use Rattle.proto_wire.specs.Writing.{Field, payload_field, spelled, spelled_fields, number_fields, text_fields, packed_fields, payload_fields}
use Rattle.scip_index.specs.Plain.{OccurrenceModel, SymbolModel, DocumentModel, ToolModel, MetadataModel, IndexModel}

-- the fields that are written for an occurrence, in order
abbrev pub occurrence_fields : OccurrenceModel → List Field
occurrence_fields o = packed_fields 1 o.range ++ text_fields 2 o.symbol ++ number_fields 3 o.symbol_roles ++ packed_fields 7 o.enclosing_range

-- the written form of an occurrence
unfoldable pub written_occurrence : OccurrenceModel → List ℕ
written_occurrence o = spelled_fields (occurrence_fields o)

-- the fields that are written for symbol information, in order
abbrev pub symbol_fields : SymbolModel → List Field
symbol_fields s = text_fields 1 s.symbol ++ text_fields 6 s.display_name

-- the written form of symbol information
unfoldable pub written_symbol : SymbolModel → List ℕ
written_symbol s = spelled_fields (symbol_fields s)

-- the fields that are written for a document, in order
abbrev pub document_fields : DocumentModel → List Field
document_fields d =
    text_fields 1 d.relative_path ++ payload_fields 2 (map written_occurrence d.occurrences)
    ++ payload_fields 3 (map written_symbol d.symbols) ++ text_fields 4 d.language ++ number_fields 6 d.position_encoding

-- the written form of a document
unfoldable pub written_document : DocumentModel → List ℕ
written_document d = spelled_fields (document_fields d)

-- the fields that are written for a tool, in order
abbrev pub tool_fields : ToolModel → List Field
tool_fields t = text_fields 1 t.name ++ text_fields 2 t.version ++ payload_fields 3 t.arguments

-- the written form of a tool
unfoldable pub written_tool : ToolModel → List ℕ
written_tool t = spelled_fields (tool_fields t)

-- the fields that are written for metadata, in order
abbrev pub metadata_fields : MetadataModel → List Field
metadata_fields m =
    number_fields 1 m.version ++ payload_fields 2 (map written_tool (option_to_list m.tool_info))
    ++ text_fields 3 m.project_root ++ number_fields 4 m.text_document_encoding

-- the written form of metadata
unfoldable pub written_metadata : MetadataModel → List ℕ
written_metadata m = spelled_fields (metadata_fields m)

-- the fields that are written for an index, in order
abbrev pub index_fields : IndexModel → List Field
index_fields i =
    payload_fields 1 (map written_metadata (option_to_list i.metadata))
    ++ payload_fields 2 (map written_document i.documents) ++ payload_fields 3 (map written_symbol i.external_symbols)

-- the written form of an index
unfoldable pub written : IndexModel → List ℕ
written i = spelled_fields (index_fields i)

-- the metadata's record in the written form of an index; empty if there are no metadata
abbrev pub metadata_part : Option MetadataModel → List ℕ
metadata_part metadata = spelled_fields (payload_fields 1 (map written_metadata (option_to_list metadata)))

-- the record of one document in the written form of an index
abbrev pub document_part : DocumentModel → List ℕ
document_part document = spelled (payload_field 2 (written_document document))

-- the records of documents in the written form of an index
abbrev pub documents_part : List DocumentModel → List ℕ
documents_part documents = flat_map document_part documents

-- the records of the external symbols in the written form of an index
abbrev pub externals_part : List SymbolModel → List ℕ
externals_part symbols = spelled_fields (payload_fields 3 (map written_symbol symbols))
