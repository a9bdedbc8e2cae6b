-- The interface of a module, what other modules can refer to (Oberon-07 report, sections 4 to 6, 10 and 11).
use Rattle.std.specs.Prelude.{ℕ, ◌==◌, List, map, Option, Some, None, Bool, true, false, ◌&&◌, if◌then◌else◌}
use Rattle.std.specs.Option.{option_map}
use Rattle.std.specs.List.{filter, filter_map, find}
use Rattle.ob_scan.specs.declared.token.Token.{Token}
use Rattle.ob_scan.specs.Texts.{text_at, token_at}
use Rattle.module_table.specs.declared.rows.DeclKind.{DeclKind}
use Rattle.module_table.specs.declared.rows.DeclKind.TheVariants as decl_kinds
use Rattle.module_table.specs.declared.rows.Part.{Part as PartRow}
use Rattle.module_table.specs.declared.rows.Part.TheVariants as parts
use Rattle.module_table.specs.declared.rows.TypePart.{TypePart}
use Rattle.module_table.specs.declared.rows.DeclGroup.{DeclGroup}
use Rattle.module_table.specs.declared.rows.Declared.{Declared}
use Rattle.module_table.specs.declared.rows.Import.{Import}
use Rattle.module_table.specs.declared.rows.TypeName.{TypeName as BaseRow}
use Rattle.module_table.specs.declared.rows.Record.{Record as RecordRow}
use Rattle.module_table.specs.Parts.{Rows}

-- the name of a type, without or with the alias that qualifies it
pub data TypeName : Type 0 where
  Simple : List ℕ → TypeName
  Qualified : List ℕ → List ℕ → TypeName

-- a component of a type expression: an array has one for each of its lengths; a record has the token number of its RECORD keyword, a name
-- its byte offset
pub data Part : Type 0 where
  Array : Part
  Pointer : Part
  Record : ℕ → Part
  Procedure : Part
  Named : ℕ → TypeName → Part

-- a declaration in the module's block, or a field of a record there: the byte offset of its identifier, its kind, whether it is exported,
-- the RECORD keyword of a field's record, the first token of its declaration group, and its type expression from the outermost component
-- to the innermost
pub record Declaration : Type 0 where
  pub name : List ℕ
  pub start : ℕ
  pub decl_kind : DeclKind
  pub exported : Bool
  pub of_record : Option ℕ
  pub declared_by : ℕ
  pub type_expr : List Part

-- the base of a record, with the byte offset of the base's name
pub record Base : Type 0 where
  pub of_record : ℕ
  pub start : ℕ
  pub name : TypeName

-- an import item: the alias, its byte offset, and the imported module's own name
pub record Imported : Type 0 where
  pub alias : List ℕ
  pub start : ℕ
  pub module_name : List ℕ

-- the interface of a module; each list is in the order of the file
pub record ModuleInterface : Type 0 where
  pub name : List ℕ
  pub declarations : List Declaration
  pub bases : List Base
  pub imports : List Imported

-- ---- tokens

-- the byte offset of the token with this number
abbrev pub start_at : List Token → ℕ → ℕ
start_at ts k = (token_at ts k).start

-- ---- entries of a table with their spelling

-- a name of one identifier, or a qualified name of two
abbrev pub type_name : List ℕ → List Token → ℕ → Option ℕ → TypeName
type_name bytes ts k None = Simple (text_at bytes ts k)
type_name bytes ts k (Some m) = Qualified (text_at bytes ts k) (text_at bytes ts m)

-- a component whose first token has the number k
abbrev pub part_at : List ℕ → List Token → ℕ → PartRow → Part
part_at bytes ts k parts.Array = Array
part_at bytes ts k parts.Pointer = Pointer
part_at bytes ts k parts.Record = Record k
part_at bytes ts k parts.Procedure = Procedure
part_at bytes ts k (parts.Named m) = Named (start_at ts k) (type_name bytes ts k m)

-- the component that an entry of the table represents
abbrev pub part_of : List ℕ → List Token → TypePart → Part
part_of bytes ts p = part_at bytes ts p.number p.part

-- whether a component belongs to the declaration group that begins with token k
abbrev pub is_part_by : ℕ → TypePart → Bool
is_part_by k p = p.declared_by == k

-- the type expression of the declaration group that begins with token k
abbrev pub type_expr_by : List ℕ → List Token → List TypePart → ℕ → List Part
type_expr_by bytes ts ps k = map (part_of bytes ts) (filter (is_part_by k) ps)

-- whether a declaration group is directly in the module's block and begins with token k
abbrev pub is_module_level : ℕ → DeclGroup → Bool
is_module_level k d = d.block == 0 && d.first == k

-- the declaration group directly in the module's block that begins with token k
abbrev pub module_level_by : List DeclGroup → ℕ → Option DeclGroup
module_level_by ds k = find (is_module_level k) ds

-- whether a declaration of this kind can be referred to by other modules: all but aliases and parameters can
abbrev pub is_exportable : DeclKind → Bool
is_exportable decl_kinds.Import = false
is_exportable decl_kinds.Constant = true
is_exportable decl_kinds.Type = true
is_exportable decl_kinds.Variable = true
is_exportable decl_kinds.Procedure = true
is_exportable decl_kinds.Parameter = false
is_exportable decl_kinds.Field = true

-- the declaration of an identifier by its declaration group
abbrev pub declaration : List ℕ → List Token → List TypePart → Declared → DeclGroup → Declaration
declaration bytes ts ps r d = record {
  name = text_at bytes ts r.number;
  start = start_at ts r.number;
  decl_kind = d.decl_kind;
  exported = r.exported;
  of_record = d.of_record;
  declared_by = r.declared_by;
  type_expr = type_expr_by bytes ts ps r.declared_by;
}

-- the declaration of an identifier, if its group is in the module's block and its kind can be referred to
abbrev pub declaration_by : List ℕ → List Token → List TypePart → Declared → Option DeclGroup → Option Declaration
declaration_by bytes ts ps r None = None
declaration_by bytes ts ps r (Some d) = if is_exportable d.decl_kind then Some (declaration bytes ts ps r d) else None

-- the declaration of an identifier, if it is part of the interface
abbrev pub declaration_of : List ℕ → List Token → Rows → Declared → Option Declaration
declaration_of bytes ts rows r = declaration_by bytes ts rows.parts r (module_level_by rows.decl_groups r.declared_by)

-- the base b of the record with the RECORD keyword k
abbrev pub base : List ℕ → List Token → ℕ → BaseRow → Base
base bytes ts k b = record { of_record = k; start = start_at ts b.head; name = type_name bytes ts b.head b.member }

-- the base that a record names, if the record belongs to a declaration group in the module's block
abbrev pub base_by : List ℕ → List Token → RecordRow → Option DeclGroup → Option Base
base_by bytes ts r None = None
base_by bytes ts r (Some d) = option_map (base bytes ts r.number) r.base

-- the base of a record, if it is part of the interface
abbrev pub base_of : List ℕ → List Token → List DeclGroup → RecordRow → Option Base
base_of bytes ts ds r = base_by bytes ts r (module_level_by ds r.owner)

-- the value of an import item
abbrev pub imported_of : List ℕ → List Token → Import → Imported
imported_of bytes ts i = record { alias = text_at bytes ts i.alias; start = start_at ts i.alias; module_name = text_at bytes ts i.imported }

-- the interface of the module with these bytes, tokens and entries; token 1 is the module's name
abbrev pub interface_of : List ℕ → List Token → Rows → ModuleInterface
interface_of bytes ts rows = record {
  name = text_at bytes ts 1;
  declarations = filter_map (declaration_of bytes ts rows) rows.declared;
  bases = filter_map (base_of bytes ts rows.decl_groups) rows.records;
  imports = map (imported_of bytes ts) rows.imports;
}
