-- The messages of an index as contracts describe them: strings are lists of bytes.
use Rattle.std.specs.Prelude.{ℕ, ℤ, List, map, Option, option_map}
use Rattle.std.specs.String.{string_bytes}
use Rattle.scip_index.specs.declared.index.Occurrence.{Occurrence}
use Rattle.scip_index.specs.declared.index.SymbolInfo.{SymbolInfo}
use Rattle.scip_index.specs.declared.index.Document.{Document}
use Rattle.scip_index.specs.declared.index.ToolInfo.{ToolInfo}
use Rattle.scip_index.specs.declared.index.Metadata.{Metadata}
use Rattle.scip_index.specs.declared.index.Index.{Index}

-- an occurrence of a symbol
pub record OccurrenceModel : Type 0 where
  pub range : List ℤ
  pub symbol : List ℕ
  pub symbol_roles : ℤ
  pub enclosing_range : List ℤ

-- a symbol and its display name
pub record SymbolModel : Type 0 where
  pub symbol : List ℕ
  pub display_name : List ℕ

-- a source file
pub record DocumentModel : Type 0 where
  pub relative_path : List ℕ
  pub occurrences : List OccurrenceModel
  pub symbols : List SymbolModel
  pub language : List ℕ
  pub position_encoding : ℤ

-- the tool that made the index
pub record ToolModel : Type 0 where
  pub name : List ℕ
  pub version : List ℕ
  pub arguments : List (List ℕ)

-- data about the whole index
pub record MetadataModel : Type 0 where
  pub version : ℤ
  pub tool_info : Option ToolModel
  pub project_root : List ℕ
  pub text_document_encoding : ℤ

-- an index
pub record IndexModel : Type 0 where
  pub metadata : Option MetadataModel
  pub documents : List DocumentModel
  pub external_symbols : List SymbolModel

-- an occurrence as contracts describe it
abbrev pub occurrence_model : Occurrence → OccurrenceModel
occurrence_model o = record { range = o.range.items; symbol = string_bytes o.symbol; symbol_roles = o.symbol_roles; enclosing_range = o.enclosing_range.items }

-- symbol information as contracts describe it
abbrev pub symbol_model : SymbolInfo → SymbolModel
symbol_model s = record { symbol = string_bytes s.symbol; display_name = string_bytes s.display_name }

-- a document as contracts describe it
abbrev pub document_model : Document → DocumentModel
document_model d = record {
  relative_path = string_bytes d.relative_path;
  occurrences = map occurrence_model d.occurrences.items;
  symbols = map symbol_model d.symbols.items;
  language = string_bytes d.language;
  position_encoding = d.position_encoding;
}

-- a tool as contracts describe it
abbrev pub tool_model : ToolInfo → ToolModel
tool_model t = record { name = string_bytes t.name; version = string_bytes t.version; arguments = map string_bytes t.arguments.items }

-- metadata as contracts describe them
abbrev pub metadata_model : Metadata → MetadataModel
metadata_model m = record {
  version = m.version;
  tool_info = option_map tool_model m.tool_info;
  project_root = string_bytes m.project_root;
  text_document_encoding = m.text_document_encoding;
}

-- an index as contracts describe it
abbrev pub index_model : Index → IndexModel
index_model i = record {
  metadata = option_map metadata_model i.metadata;
  documents = map document_model i.documents.items;
  external_symbols = map symbol_model i.external_symbols.items;
}
