-- What the table of a module declares, for comparison with look-ups by name in its interface.
use Rattle.std.specs.Prelude.{◌≡◌, ℕ, ◌≤◌, List, Option, true, Contains}
use Rattle.ob_scan.specs.declared.token.Token.{Token}
use Rattle.ob_scan.specs.Texts.{text_at}
use Rattle.module_table.specs.declared.rows.DeclGroup.{DeclGroup}
use Rattle.module_table.specs.declared.rows.Declared.{Declared}
use Rattle.module_table.specs.Parts.{Rows}
use Rattle.ob_interface.specs.Interfaces.{declaration, is_exportable, Declaration}

-- an entry of the table declares the name in this record, or outside of records if none is given; its declaration group is in the module's
-- block, and other modules can refer to its kind
pub record Declares (bytes : List ℕ) (ts : List Token) (rows : Rows) (of_record : Option ℕ) (name : List ℕ) (row : Declared) (by : DeclGroup) : Type 0 where
  pub is_row : Contains rows.declared row
  pub is_construct : Contains rows.decl_groups by
  pub begins : by.first ≡ row.declared_by
  pub in_block : by.block ≡ 0
  pub seen : is_exportable by.decl_kind ≡ true
  pub in_record : by.of_record ≡ of_record
  pub named : text_at bytes ts row.number ≡ name

-- the first declaration of the name in the file, with its name, offset, kind, export flag and type expression
pub record IsFirstDeclared (bytes : List ℕ) (ts : List Token) (rows : Rows) (of_record : Option ℕ) (name : List ℕ) (d : Declaration) : Type 0 where
  pub row : Declared
  pub by : DeclGroup
  pub declares : Declares bytes ts rows of_record name row by
  pub first : (other : Declared) (its : DeclGroup) → Declares bytes ts rows of_record name other its → row.number ≤ other.number
  pub exact : d ≡ declaration bytes ts rows.parts row by
