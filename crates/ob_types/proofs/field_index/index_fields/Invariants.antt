use Rattle.std.proofs.Common.{◌≡◌, ◌≤◌, length, drop}
use Rattle.std.specs.Prelude.{◌&&◌, find}
use Rattle.std.specs.Option.{option_map}
use Rattle.std.specs.Str.{bytes_eq}
use Rattle.indexmap.specs.IndexMap.{get}
use Rattle.module_table.specs.declared.rows.Declared.{Declared}
use Rattle.ob_types.specs.FieldIndex.{field_key_eq, FieldKey}
use Rattle.ob_view.specs.World.{is_of_record, text}
use Rattle.ob_types.proofs.field_index.index_fields.Given as goal

abbrev pub invariant-rows : goal.invariant-rows
invariant-rows l = record {
  within : l.at ≤ length l.rows;
  fields : (key : FieldKey) → get field_key_eq (l.fields).value key ≡ option_map (λ (d : Declared). d.number) (find (λ (d : Declared). is_of_record l.fn.view key.0 d && bytes_eq (text l.fn.view d.number) key.1.bytes.now) (drop l.at l.rows));
}

abbrev pub decreases-rows : goal.decreases-rows
decreases-rows l = l.at
