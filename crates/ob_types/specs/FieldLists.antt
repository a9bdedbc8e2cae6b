-- Lists of the fields of a module and of the modules that it reaches.
use Rattle.std.specs.Prelude.{◌≡◌, ℕ, List, slice_get, Some, true}
use Rattle.module_table.specs.declared.rows.Declared.{Declared}
use Rattle.ob_interface.specs.Interfaces.{Declaration, ModuleInterface}
use Rattle.type_graph.specs.declared.listed.RecordField.{RecordField}
use Rattle.type_graph.specs.ListedFields.{IsListedField}
use Rattle.ob_types.specs.declared.nodes.Record.{Record}
use Rattle.ob_types.specs.declared.nodes.Record.TheVariants as records
use Rattle.ob_view.specs.World.{World, exported_at, field_at, is_of_record, text}

-- a list of fields, each with the record that declares it and with its name
abbrev pub Fields : Type 0
Fields = List (RecordField Record)

-- each field in the list `before` is also in the list `after`
abbrev pub StayListed : Fields → Fields → Type 0
StayListed before after = (r : Record) (name : List ℕ) → IsListedField before r name → IsListedField after r name

-- the list `after` has the fields of `before`, and the identifier `row` of the module, if this is a field
pub record ListsRow (w : World) (row : Declared) (before after : Fields) : Type 0 where
  pub stay : StayListed before after
  pub listed : (r : ℕ) → is_of_record w r row ≡ true → IsListedField after (records.Own r) (text w row.number)

-- the list `after` has the fields of `before`, and all fields that the module itself declares
pub record ListsLocal (w : World) (before after : Fields) : Type 0 where
  pub stay : StayListed before after
  pub listed : (r : ℕ) (name : List ℕ) (k : ℕ) → field_at w r name ≡ Some k → IsListedField after (records.Own r) name

-- the list `after` has the fields of `before`, and the declaration `d` of the reached module `i`, if this is an exported field
pub record ListsDeclaration (i : ℕ) (d : Declaration) (before after : Fields) : Type 0 where
  pub stay : StayListed before after
  pub listed : (r : ℕ) → d.exported ≡ true → d.of_record ≡ Some r → IsListedField after (records.Other i r) d.name

-- the list `after` has the fields of `before`, and all fields that the module `m`, with the index `i`, exports
pub record ListsModule (i : ℕ) (m : ModuleInterface) (before after : Fields) : Type 0 where
  pub stay : StayListed before after
  pub listed : (r : ℕ) (name : List ℕ) (d : ℕ) → exported_at m (Some r) name ≡ Some d → IsListedField after (records.Other i r) name

-- the list `after` has the fields of `before`, and all fields that the reached modules `ms` export
pub record ListsReached (ms : List ModuleInterface) (before after : Fields) : Type 0 where
  pub stay : StayListed before after
  pub listed : (i : ℕ) (m : ModuleInterface) (r : ℕ) (name : List ℕ) (d : ℕ) → slice_get ms i ≡ Some m → exported_at m (Some r) name ≡ Some d → IsListedField after (records.Other i r) name
