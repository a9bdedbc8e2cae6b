-- What the types of the code guarantee of each message: its numbers fit 32 bits, and its strings are UTF-8. So its written form can be
-- decoded.
use Rattle.std.specs.Prelude.{FitsSigned, IfSome}
use Rattle.std.specs.Int.{w32}
use Rattle.std.specs.List.{AllByRecursion}
use Rattle.std.specs.Str.{IsUtf8}
use Rattle.scip_index.specs.Plain.{OccurrenceModel, SymbolModel, DocumentModel, ToolModel, MetadataModel, IndexModel}

-- the numbers of an occurrence fit 32 bits, and its symbol string is UTF-8
pub record OccurrenceFits (o : OccurrenceModel) : Type 0 where
  pub range : AllByRecursion (FitsSigned w32) o.range
  pub symbol : IsUtf8 o.symbol
  pub symbol_roles : FitsSigned w32 o.symbol_roles
  pub enclosing_range : AllByRecursion (FitsSigned w32) o.enclosing_range

-- the strings of symbol information are UTF-8
pub record SymbolFits (s : SymbolModel) : Type 0 where
  pub symbol : IsUtf8 s.symbol
  pub display_name : IsUtf8 s.display_name

-- the numbers of a document and of the messages in it fit 32 bits, and their strings are UTF-8
pub record DocumentFits (d : DocumentModel) : Type 0 where
  pub relative_path : IsUtf8 d.relative_path
  pub occurrences : AllByRecursion OccurrenceFits d.occurrences
  pub symbols : AllByRecursion SymbolFits d.symbols
  pub language : IsUtf8 d.language
  pub position_encoding : FitsSigned w32 d.position_encoding

-- the strings of a tool are UTF-8
pub record ToolFits (t : ToolModel) : Type 0 where
  pub name : IsUtf8 t.name
  pub version : IsUtf8 t.version
  pub arguments : AllByRecursion IsUtf8 t.arguments

-- the numbers of metadata fit 32 bits, and their strings are UTF-8, also those of the tool
pub record MetadataFits (m : MetadataModel) : Type 0 where
  pub version : FitsSigned w32 m.version
  pub tool_info : IfSome m.tool_info ToolFits
  pub project_root : IsUtf8 m.project_root
  pub text_document_encoding : FitsSigned w32 m.text_document_encoding

-- the numbers of all messages of an index fit 32 bits, and their strings are UTF-8
pub record IndexFits (i : IndexModel) : Type 0 where
  pub metadata : IfSome i.metadata MetadataFits
  pub documents : AllByRecursion DocumentFits i.documents
  pub external_symbols : AllByRecursion SymbolFits i.external_symbols
