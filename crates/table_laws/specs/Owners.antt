-- The owners of record types: the declaration whose type a record is, directly or through arrays and pointers.
use Rattle.std.specs.Prelude.{◌≡◌, ℕ, ◌<◌, ◌≤◌, Bool, true, false, Contains}
use Rattle.module_table.specs.declared.rows.Declared.{Declared}
use Rattle.module_table.specs.declared.rows.DeclGroup.{DeclGroup}
use Rattle.module_table.specs.declared.rows.TypePart.{TypePart}
use Rattle.module_table.specs.declared.rows.Part.TheVariants as parts
use Rattle.module_table.specs.declared.rows.Record.{Record}
use Rattle.module_table.specs.declared.rows.DeclKind.{DeclKind}
use Rattle.module_table.specs.declared.rows.DeclKind.TheVariants as decl_kinds
use Rattle.module_table.specs.Parts.{Rows}

-- whether declarations of this kind can own a record
abbrev pub has_type : DeclKind → Bool
has_type decl_kinds.Import = false
has_type decl_kinds.Constant = false
has_type decl_kinds.Type = true
has_type decl_kinds.Variable = true
has_type decl_kinds.Procedure = false
has_type decl_kinds.Parameter = false
has_type decl_kinds.Field = true

-- the type expression of the owner of the record has this RECORD as its last component
pub record EndsTypeExpr (rows : Rows) (r : Record) : Type 0 where
  pub part : TypePart
  pub among : Contains rows.parts part
  pub declared_by : part.declared_by ≡ r.owner
  pub number : part.number ≡ r.number
  pub is : part.part ≡ parts.Record
  pub last : (q : TypePart) → Contains rows.parts q → q.declared_by ≡ r.owner → q.number ≤ r.number

-- this component of a declaration's type is a record of the table, and the declaration owns the record
pub record IsOfRecord (rows : Rows) (q : TypePart) : Type 0 where
  pub row : Record
  pub among : Contains rows.records row
  pub number : row.number ≡ q.number
  pub owner : row.owner ≡ q.declared_by

-- the record r has an owner that is declared before the field f, in the block of f, and is a type, a variable or a field
pub record IsFieldOf (rows : Rows) (f : DeclGroup) (r : ℕ) : Type 0 where
  pub row : Record
  pub among : Contains rows.records row
  pub number : row.number ≡ r
  pub before : row.owner < f.first
  pub by : DeclGroup
  pub by_among : Contains rows.decl_groups by
  pub first : by.first ≡ row.owner
  pub block : by.block ≡ f.block
  pub decl_kind : has_type by.decl_kind ≡ true
  pub declared : Declared
  pub declared_among : Contains rows.declared declared
  pub declared_number : declared.number ≡ row.owner
  pub declared_by : declared.declared_by ≡ row.owner
