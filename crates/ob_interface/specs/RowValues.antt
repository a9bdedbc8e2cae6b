-- The interface that entries over a buffer represent.
use Rattle.std.specs.Prelude.{ℕ, ◌≤◌, ◌^◌, List, length, map, slice_range}
use Rattle.ob_interface.specs.declared.rows.PartRow.{PartRow}
use Rattle.ob_interface.specs.declared.rows.Rows.{Rows}
use Rattle.ob_interface.specs.Interfaces.{ModuleInterface, Part}
use Rattle.ob_interface.specs.Texts.{text_in, part_row_in, declaration_in, base_in, import_in}

-- the type expression whose components have the indexes from `first` to before `end`
abbrev pub type_expr_in : List ℕ → List PartRow → ℕ → ℕ → List Part
type_expr_in text ps first end = map (part_row_in text) (slice_range ps first end)

-- the interface that the entries represent
abbrev pub interface_in : Rows → ModuleInterface
interface_in r = record {
  name = text_in r.text.items r.name;
  declarations = map (declaration_in (type_expr_in r.text.items r.parts.items) r.text.items) r.declarations.items;
  bases = map (base_in r.text.items) r.bases.items;
  imports = map (import_in r.text.items) r.imports.items;
}

-- the lists of declarations, bases and import items have at most 2^32 elements, so their indexes fit 32 bits
pub record HasBoundedLists (r : Rows) : Type 0 where
  pub declarations : length r.declarations.items ≤ 2 ^ 32
  pub bases : length r.bases.items ≤ 2 ^ 32
  pub imports : length r.imports.items ≤ 2 ^ 32
