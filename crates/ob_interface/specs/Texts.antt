-- Decoding of entries whose names are spans of one buffer that only grows.
use Rattle.std.specs.Prelude.{◌≡◌, ℕ, ◌-◌, List, ◌++◌, map, take, drop, slice_range, Option, Some, None}
use Rattle.ob_interface.specs.declared.rows.BufferSpan.{BufferSpan}
use Rattle.ob_interface.specs.declared.rows.NameRow.{NameRow}
use Rattle.ob_interface.specs.declared.rows.RowPart.{RowPart}
use Rattle.ob_interface.specs.declared.rows.RowPart.TheVariants as row_parts
use Rattle.ob_interface.specs.declared.rows.PartRow.{PartRow}
use Rattle.ob_interface.specs.declared.rows.BaseRow.{BaseRow}
use Rattle.ob_interface.specs.declared.rows.ImportRow.{ImportRow}
use Rattle.ob_interface.specs.declared.rows.DeclarationRow.{DeclarationRow}
use Rattle.ob_interface.specs.Interfaces.{TypeName, Simple, Qualified, Part, Array, Pointer, Record, Procedure, Named, Declaration, Base, Imported, part_of}
use Rattle.ob_scan.specs.declared.token.Token.{Token}
use Rattle.module_table.specs.declared.rows.TypePart.{TypePart}

-- the new buffer extends the old one
pub record IsGrown (old new : List ℕ) : Type 0 where
  pub more : List ℕ
  pub is : new ≡ old ++ more

-- x decodes to y in this buffer and in every extension of it
abbrev pub DecodesTo : {X Y : Type 0} → (List ℕ → X → Y) → List ℕ → X → Y → Type 0
DecodesTo decode text x y = (more : List ℕ) → decode (text ++ more) x ≡ y

-- the list decodes to ys, element by element, in this buffer and in every extension of it
abbrev pub AllDecodeTo : {X Y : Type 0} → (List ℕ → X → Y) → List ℕ → List X → List Y → Type 0
AllDecodeTo decode text xs ys = (more : List ℕ) → map (decode (text ++ more)) xs ≡ ys

-- Each definition below decodes one type of entries.
abbrev pub text_in : List ℕ → BufferSpan → List ℕ
text_in text s = take (s.end - s.start) (drop s.start text)

abbrev pub name_in : List ℕ → NameRow → TypeName
name_in text n = by n.member
  where
    by : Option BufferSpan → TypeName
    by None = Simple (text_in text n.head)
    by (Some m) = Qualified (text_in text n.head) (text_in text m)

abbrev pub part_in : List ℕ → RowPart → Part
part_in text row_parts.Array = Array
part_in text row_parts.Pointer = Pointer
part_in text (row_parts.Record k) = Record k
part_in text row_parts.Procedure = Procedure
part_in text (row_parts.Named start n) = Named start (name_in text n)

abbrev pub part_row_in : List ℕ → PartRow → Part
part_row_in text p = part_in text p.part

-- a declaration, given how a range of components decodes to a type expression
abbrev pub declaration_in : (ℕ → ℕ → List Part) → List ℕ → DeclarationRow → Declaration
declaration_in type_exprs text d = record {
  name = text_in text d.name;
  start = d.start;
  decl_kind = d.decl_kind;
  exported = d.exported;
  of_record = d.«record»;
  declared_by = d.declared_by;
  type_expr = type_exprs d.first_part d.parts_end;
}

-- the type expression of the components from index `first` to before `end`, decoded from the tokens
abbrev pub type_expr_at : List ℕ → List Token → List TypePart → ℕ → ℕ → List Part
type_expr_at bytes ts ps first end = map (part_of bytes ts) (slice_range ps first end)

abbrev pub base_in : List ℕ → BaseRow → Base
base_in text b = record { of_record = b.«record»; start = b.start; name = name_in text b.name }

abbrev pub import_in : List ℕ → ImportRow → Imported
import_in text i = record { alias = text_in text i.alias; start = i.start; module_name = text_in text i.imported }
