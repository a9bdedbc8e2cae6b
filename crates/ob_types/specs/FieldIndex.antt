-- The index of a module's fields, by record and name.
use Rattle.std.specs.Prelude.{◌≡◌, ℕ, nat_eq, Bool, ◌&&◌}
use Rattle.std.specs.Str.{bytes_eq}
use Rattle.indexmap.specs.IndexMap.{get, IndexMap}
use Rattle.text_hash.specs.declared.name.Name.{Name}
use Rattle.ob_view.specs.World.{World, field_at}

-- the key of a field: the RECORD keyword of its record, and its name
abbrev pub FieldKey : Type 0
FieldKey = ℕ × Name

-- whether two keys of fields have the same record and the same name
abbrev pub field_key_eq : FieldKey → FieldKey → Bool
field_key_eq a b = nat_eq a.0 b.0 && bytes_eq a.1.bytes.now b.1.bytes.now

-- the map has exactly the fields of the module, by record and name
abbrev pub AreFields : {S : Type 0} → World → IndexMap FieldKey ℕ S → Type 0
AreFields w fields = (key : FieldKey) → get field_key_eq fields key ≡ field_at w key.0 key.1.bytes.now
