-- Look-ups in an interface by name, index and record. If several elements match, the first in the file is meant.
use Rattle.std.specs.Prelude.{ℕ, ◌-◌, nat_eq, ◌==◌, List, length, slice_get, Option, Some, None, Bool, false, ◌&&◌, position, find}
use Rattle.std.specs.Option.{option_eq, option_map, option_and_then}
use Rattle.std.specs.Str.{bytes_eq}
use Rattle.ob_interface.specs.Interfaces.{Array, Pointer, Record, Procedure, Named, Base, Declaration, Imported, ModuleInterface, Part}

-- whether this declares the name in the record, or in the module's block if no record is given
abbrev pub is_member : Option ℕ → List ℕ → Declaration → Bool
is_member of_record name d = option_eq nat_eq d.of_record of_record && bytes_eq d.name name

-- the index of the declaration of a name in a record, or in the module's block if no record is given
abbrev pub index_of : ModuleInterface → Option ℕ → List ℕ → Option ℕ
index_of m of_record name = position (is_member of_record name) m.declarations

-- the declaration with this index
abbrev pub declaration_at : ModuleInterface → ℕ → Option Declaration
declaration_at m index = slice_get m.declarations index

-- the component with index `at` of a declaration's type expression
abbrev pub type_part : ModuleInterface → ℕ → ℕ → Option Part
type_part m index at = option_and_then (λ (d : Declaration). slice_get d.type_expr at) (declaration_at m index)

-- the own name of the module that an alias denotes
abbrev pub module_named : ModuleInterface → List ℕ → Option (List ℕ)
module_named m alias = option_map (λ (i : Imported). i.module_name) (find (λ (i : Imported). bytes_eq i.alias alias) m.imports)

-- the base of the record with this RECORD keyword
abbrev pub base_named : ModuleInterface → ℕ → Option Base
base_named m of_record = find (λ (b : Base). b.of_record == of_record) m.bases

-- whether an optional component is the record with this RECORD keyword
abbrev pub is_record : ℕ → Option Part → Bool
is_record k None = false
is_record k (Some Array) = false
is_record k (Some Pointer) = false
is_record k (Some (Record r)) = r == k
is_record k (Some Procedure) = false
is_record k (Some (Named start name)) = false

-- whether the type of a declaration is the record, directly or through arrays and pointers: its type expression ends in it
abbrev pub holds : ℕ → Declaration → Bool
holds k d = is_record k (slice_get d.type_expr (length d.type_expr - 1))

-- the index of the declaration whose type is the record, directly or through arrays and pointers
abbrev pub owner_index : ModuleInterface → ℕ → Option ℕ
owner_index m k = position (holds k) m.declarations
