-- The list of a graph's fields.
use Rattle.std.specs.Prelude.{◌≡◌, ℕ, List, Option, Some, Contains}
use Rattle.type_graph.specs.declared.listed.RecordField.{RecordField}

-- the list contains a field of this record with this name
pub record IsListedField {R : Type 0} (fields : List (RecordField R)) (r : R) (name : List ℕ) : Type 0 where
  pub entry : RecordField R
  pub among : Contains fields entry
  pub of : entry.of_record ≡ r
  pub named : entry.name.now ≡ name

-- the list contains every field that a record declares itself
pub record AreAllFields {R F : Type 0} (field : R → List ℕ → Option F) (fields : List (RecordField R)) : Type 0 where
  pub each : (r : R) (name : List ℕ) (f : F) → field r name ≡ Some f → IsListedField fields r name
