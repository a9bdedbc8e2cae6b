-- Heavy paths of the forest of records: a sequence of records in which each path is a range, from its lowest record up.
use Rattle.std.specs.Prelude.{◌≡◌, ◌<◌, ◌≤◌, ℕ, suc, Bool, true, false, List, Option, Some, slice_get, position, Contains, IfSome, IsSomeAnd}
use Rattle.std.specs.List.Sorted.{IsPartitionPoint, IsSortedBy}
use Rattle.std.specs.Ordering.{nat_cmp, ordering_then, is_le, is_lt}
use Rattle.std.specs.Cmp.Lexicographic.{slice_cmp}
use Rattle.std.specs.declared.cmp.Ordering.{Ordering}
use Rattle.type_graph.specs.declared.jump.Jump.{Jump}
use Rattle.type_graph.specs.declared.jump.Jump.TheVariants as jumps
use Rattle.type_graph.specs.declared.field_entries.FieldEntry.{FieldEntry}
use Rattle.type_graph.specs.declared.shape.Shape.{Shape}
use Rattle.type_graph.specs.declared.listed.RecordField.{RecordField}
use Rattle.type_graph.specs.Extending.{Extends, Lacks}

-- the key of a field: its name, and the index of its record in the sequence
abbrev pub FieldKey : Type 0
FieldKey = List ℕ × ℕ

-- fields are ordered by name, then by index
abbrev pub field_key_cmp : FieldKey → FieldKey → Ordering
field_key_cmp a b = ordering_then (slice_cmp nat_cmp a.0 b.0) (nat_cmp a.1 b.1)

-- the key of a field
abbrev pub field_key_of : FieldEntry → FieldKey
field_key_of e = (e.name.items, e.slot)

-- the fields are sorted by their keys, without duplicates
abbrev pub IsSortedByName : List FieldEntry → Type 0
IsSortedByName es = IsSortedBy (λ a b. is_lt (field_key_cmp (field_key_of a) (field_key_of b))) es

-- exactly the first `count` fields have a key that is at most x
abbrev pub IsCountUpTo : List FieldEntry → FieldKey → ℕ → Type 0
IsCountUpTo es x count = IsPartitionPoint (λ e. is_le (field_key_cmp (field_key_of e) x) ≡ true) (λ e. is_le (field_key_cmp (field_key_of e) x) ≡ false) es count

-- the record with this index has a field of this name
pub record HasFieldAt (es : List FieldEntry) (name : List ℕ) (slot : ℕ) : Type 0 where
  pub entry : FieldEntry
  pub among : Contains es entry
  pub is : field_key_of entry ≡ (name, slot)

-- the new list has all fields of the old one, and the given field too if its record is in the sequence `paths`
pub record AddsField {R : Type 0} (same : R → R → Bool) (paths : List R) (field : RecordField R) (before after : List FieldEntry) : Type 0 where
  pub stays : (name : List ℕ) (slot : ℕ) → HasFieldAt before name slot → HasFieldAt after name slot
  pub added : (slot : ℕ) → position (same field.of_record) paths ≡ Some slot → HasFieldAt after field.name.now slot

-- `next` is an index after `slot`, and at most that of the first later record that has a field of this name; it is None only if no later
-- record has one
pub record IsSlotAfter (es : List FieldEntry) (name : List ℕ) (slot : ℕ) (next : Option ℕ) : Type 0 where
  pub behind : IfSome next (λ (q : ℕ). slot < q)
  pub least : (k : ℕ) → slot < k → HasFieldAt es name k → IsSomeAnd next (λ (q : ℕ). q ≤ k)

module _ {N D R : Type 0} (shape : N → Shape N D R) (base : R → Option N) where
  -- the record after this index is the parent of the record with this index
  pub record ContinuesPath (paths : List R) (slot : ℕ) : Type 0 where
    pub lower : R
    pub upper : R
    pub here : slice_get paths slot ≡ Some lower
    pub next : slice_get paths (suc slot) ≡ Some upper
    pub extends : Extends shape base lower upper

  -- from one index up to another, each record is followed by its parent
  pub record IsPathTo (paths : List R) (slot last : ℕ) : Type 0 where
    pub up : slot ≤ last
    pub each : (k : ℕ) → slot ≤ k → k < last → ContinuesPath paths k

  -- for each index from `from` on, `ends` has an index up to which each record is followed by its parent
  pub record AreEnds (from : ℕ) (paths : List R) (ends : List ℕ) : Type 0 where
    pub each : (slot last : ℕ) → from ≤ slot → slice_get ends slot ≡ Some last → IsPathTo paths slot last

  module _ {F : Type 0} (field : R → List ℕ → Option F) where
    -- every field of a record in the sequence is in the list
    pub record HasAllFields (paths : List R) (es : List FieldEntry) : Type 0 where
      pub each : (slot : ℕ) (r : R) (name : List ℕ) (f : F) → slice_get paths slot ≡ Some r → field r name ≡ Some f → HasFieldAt es name slot

    -- up to the end of each index each record is followed by its parent; `es` has every field of the records, sorted by name and index
    pub record ArePaths (paths : List R) (ends : List ℕ) (es : List FieldEntry) : Type 0 where
      pub are_ends : AreEnds 0 paths ends
      pub are_owned : HasAllFields paths es
      pub by_name : IsSortedByName es

  module _ {F : Type 0} (field : R → Option F) where
    -- a jump from r skips no field: no record from r up to the child of `parent`, or from r up to `last`, has a field of this name
    abbrev pub IsJump : R → Jump R → Type 0
    IsJump r (jumps.Onto parent) = (last : R) × Lacks shape base field r last × Extends shape base last parent
    IsJump r (jumps.From last) = Lacks shape base field r last
