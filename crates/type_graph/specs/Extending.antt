-- The records that types denote, their base records, and the fields that they have or inherit.
use Rattle.std.specs.Prelude.{◌≡◌, ℕ, zero, suc, List, Bool, true, ◌&&◌, Option, Some, None, IfSome, IfNone}
use Rattle.std.specs.List.{All}
use Rattle.std.specs.Str.{bytes_eq}
use Rattle.indexmap.specs.IndexMap.{get, IndexMap}
use Rattle.text_hash.specs.declared.name.Name.{Name}
use Rattle.type_graph.specs.declared.shape.Shape.{Shape}
use Rattle.type_graph.specs.declared.shape.Shape.TheVariants as shapes
use Rattle.type_graph.specs.Memoized.{IsMemoized}
use Rattle.type_graph.specs.declared.memo.MemoTable.{MemoTable}
use Rattle.type_graph.specs.Link.{TypeLeadsTo}
use Rattle.type_graph.specs.Progress.{IsVisited}
use Rattle.type_graph.specs.Searches.{IsRevisited}

-- the record, if the type is a record type
abbrev pub shape_record : {N D R : Type 0} → Shape N D R → Option R
shape_record (shapes.Array n) = None
shape_record (shapes.Pointer n) = None
shape_record (shapes.Record r) = Some r
shape_record shapes.Procedure = None
shape_record (shapes.Named d n) = None
shape_record shapes.Unknown = None

module _ {N D R : Type 0} (shape : N → Shape N D R) where
  -- the type denotes a record, through names and pointers
  pub record LeadsToRecord (n : N) (r : R) : Type 0 where
    pub at : N
    pub leads : TypeLeadsTo shape true n at
    pub is : shape_record (shape at) ≡ Some r

  -- the record that a type denotes, or none
  pub record IsRecordOf (n : N) (o : Option R) : Type 0 where
    pub some : IfSome o (LeadsToRecord n)
    pub none : IfNone o ((r : R) → LeadsToRecord n r → ⊥)

  module _ (base : R → Option N) where
    -- the base of a record denotes another record, its parent
    pub record Extends (r parent : R) : Type 0 where
      pub by : N
      pub is_base : base r ≡ Some by
      pub is_of : LeadsToRecord by parent

    -- the parent of a record, or none
    pub record IsParent (r : R) (o : Option R) : Type 0 where
      pub some : IfSome o (Extends r)
      pub none : IfNone o ((parent : R) → Extends r parent → ⊥)

    -- each memoized parent is the parent of its record
    pub record AreParents (same : R → R → Bool) (memo : MemoTable R (Option R)) : Type 0 where
      pub each : (r : R) (o : Option R) → IsMemoized same memo r o → IsParent r o

    module _ {F : Type 0} (field : R → Option F) where
      -- a name denotes a field in a record: the record's own, or the one that its base has, k bases up
      pub data Has : ℕ → R → F → Type 0 where
        own_field : {r : R} {f : F} → field r ≡ Some f → Has zero r f
        base_field : {k : ℕ} {r parent : R} {f : F} → field r ≡ None → Extends r parent → Has k parent f → Has (suc k) r f

      -- a name denotes a field in a record, at any number of bases up
      pub record HasField (r : R) (f : F) : Type 0 where
        pub bases : ℕ
        pub has : Has bases r f

      -- the field that a name denotes in a record, or none
      pub record IsFieldIn (r : R) (o : Option F) : Type 0 where
        pub some : IfSome o (HasField r)
        pub none : IfNone o ((f : F) → HasField r f → ⊥)

      -- k bases lead up from the first record to the last; no record below the last has a field of this name
      pub data Rises : ℕ → R → R → Type 0 where
        nowhere : {r : R} → Rises zero r r
        higher : {k : ℕ} {r s parent : R} → Rises k r s → field s ≡ None → Extends s parent → Rises (suc k) r parent

      -- bases lead up from the first record to the last, and no record on this path has a field of this name, the two included
      pub record Lacks (r last : R) : Type 0 where
        pub bases : ℕ
        pub rises : Rises bases r last
        pub none : field last ≡ None

      -- one step of a search: the record is visited, possibly with ancestors that lack the field, and the search goes on at the parent of
      -- the last of these; or the record closes a cycle, and the search ends
      pub data IsNextParent (same : R → R → Bool) (r : R) (before after : List R) (o : Option R) : Type 0 where
        risen : {last : R} → IsVisited r before after → Lacks r last → IsParent last o → IsNextParent same r before after o
        revisited : IsRevisited same r before after → o ≡ None → IsNextParent same r before after o

      -- a name denotes the same field, or none, in the record r and in all records of the list `met`
      pub record AreFieldsOf (r : R) (met : List R) (o : Option F) : Type 0 where
        pub is : IsFieldIn r o
        pub each : All (λ (s : R). IsFieldIn s o) met

    -- the key of a memoized field: a record and a name
    abbrev pub Use : Type 0
    Use = R × Name

    -- equality of keys of memoized fields
    abbrev pub same_use : (R → R → Bool) → Use → Use → Bool
    same_use same a b = same a.0 b.0 && bytes_eq a.1.bytes.now b.1.bytes.now

    -- each memoized field is the field that its name denotes in its record
    pub record AreFieldsMemoized {F S : Type 0} (field : R → List ℕ → Option F) (same : R → R → Bool) (found : IndexMap Use (Option F) S) : Type 0 where
      pub each : (u : Use) (o : Option F) → get (same_use same) found u ≡ Some o → IsFieldIn (λ (r : R). field r u.1.bytes.now) u.0 o
