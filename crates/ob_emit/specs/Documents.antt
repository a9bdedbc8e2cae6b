-- The document of a module (scip.proto, `Document`).
use Rattle.std.specs.Prelude.{ℕ, zero, suc, ◌+◌, ◌-◌, ◌==◌, ℤ, pos, List, [], ◌∷◌, codes, Option, None, length, count_by, if◌then◌else◌}
use Rattle.std.specs.Option.{option_map, option_map_or}
use Rattle.std.specs.List.{filter_map, range_with_len}
use Rattle.ob_scan.specs.declared.token.Token.{Token}
use Rattle.ob_scan.specs.Position.{ends_line}
use Rattle.ob_scan.specs.Texts.{token_at}
use Rattle.module_table.specs.declared.rows.DeclGroup.{DeclGroup}
use Rattle.ob_view.specs.World.{World, decl_group_of, text}
use Rattle.ob_view.specs.declared.target.Reference.{Reference}
use Rattle.ob_view.specs.declared.target.Target.{Target}
use Rattle.ob_view.specs.declared.target.Target.TheVariants as targets
use Rattle.scip_symbol.specs.SymbolTexts.{SymbolModel, canonical_text}
use Rattle.scip_index.specs.Plain.{DocumentModel, OccurrenceModel, SymbolModel as SymbolRow}
use Rattle.scip_index.specs.Ranges.{range_between}
use Rattle.ob_emit.specs.Symbols.{symbol_of}

-- ---- locations

-- the line of an offset, counted from 0: the number of line ends before the offset
unfoldable pub line_number : List ℕ → ℕ → ℕ
line_number bytes offset = count_by (ends_line bytes) (range_with_len 0 offset)

-- the column of an offset, counted from 0: the number of bytes from the start of the offset's line to the offset
unfoldable pub column_of : List ℕ → ℕ → ℕ
column_of bytes zero = 0
column_of bytes (suc offset) = if ends_line bytes offset then 0 else column_of bytes offset + 1

-- the range from the start of one token to the end of another
abbrev pub span_range : List ℕ → Token → Token → List ℤ
span_range bytes first last = range_between (line_number bytes first.start) (column_of bytes first.start) (line_number bytes last.end) (column_of bytes last.end)

-- the range from the start of the token with one number to the end of the token with another
abbrev pub span_of : World → ℕ → ℕ → List ℤ
span_of w first last = span_range w.bytes (token_at w.tokens first) (token_at w.tokens last)

-- the range of the token with this number
abbrev pub token_range : World → ℕ → List ℤ
token_range w k = span_of w k k

-- the range of the construct that declares a target, empty if this module has none. The range of the module itself goes from MODULE to
-- the last token, which is the full stop
abbrev pub declaration_range : World → Target → List ℤ
declaration_range w (targets.Declared k) = option_map_or (λ (by : DeclGroup). span_of w by.first by.last) (decl_group_of w k) []
declaration_range w (targets.Imported i d) = []
declaration_range w (targets.External item name) = []
declaration_range w targets.Own = span_of w 0 (length w.tokens - 1)
declaration_range w (targets.«Module» item) = []
declaration_range w targets.Predeclared = []
declaration_range w targets.Unresolved = []

-- the range of the construct that declares the reference's target, if the reference is the declaration itself (role 1), and otherwise an
-- empty range
abbrev pub enclosing_range : World → Reference → List ℤ
enclosing_range w r = if r.role == 1 then declaration_range w r.target else []

-- ---- the document

-- the occurrence of a reference: its range, symbol string, role and enclosing range; None if its target has no symbol
abbrev pub occurrence : World → List ℕ → Reference → Option OccurrenceModel
occurrence w package_name r =
    option_map (λ (s : SymbolModel). record { range = token_range w r.number; symbol = canonical_text s; symbol_roles = pos r.role; enclosing_range = enclosing_range w r }) (symbol_of w package_name r.target)

-- the symbol information of a reference, with the identifier as its display name; None if the reference isn't a declaration, or if its
-- target has no symbol
abbrev pub declared_symbol_info : World → List ℕ → Reference → Option SymbolRow
declared_symbol_info w package_name r =
    if r.role == 1 then option_map (λ (s : SymbolModel). record { symbol = canonical_text s; display_name = text w r.number }) (symbol_of w package_name r.target)
    else None

-- the document at this path with these occurrences and symbols; its language is Oberon, and its columns count bytes of UTF-8
abbrev pub document_at : List ℕ → List OccurrenceModel → List SymbolRow → DocumentModel
document_at path occurrences symbols = record {
  relative_path = path;
  occurrences = occurrences;
  symbols = symbols;
  language = codes "Oberon";
  position_encoding = pos 1;
}

-- the document of a module at this path: the occurrences and the declared symbols, each in the order of the references
abbrev pub document_of : World → List ℕ → List ℕ → List Reference → DocumentModel
document_of w path package_name refs = document_at path (filter_map (occurrence w package_name) refs) (filter_map (declared_symbol_info w package_name) refs)
