-- The rules of look-up in types (Oberon-07 report, sections 6 and 8.1).
use Rattle.std.specs.Prelude.{◌≡◌, List, [], ◌∷◌, ◌++◌, Bool, true, false, Option, Some, None}
use Rattle.std.specs.List.{list_any}
use Rattle.type_graph.specs.declared.shape.Shape.{Shape}
use Rattle.type_graph.specs.declared.shape.Shape.TheVariants as shapes

-- the type is neither a name nor unknown
abbrev pub IsUnnamed : {N D R : Type 0} → Shape N D R → Type 0
IsUnnamed (shapes.Array n) = Unit {0}
IsUnnamed (shapes.Pointer n) = Unit {0}
IsUnnamed (shapes.Record r) = Unit {0}
IsUnnamed shapes.Procedure = Unit {0}
IsUnnamed (shapes.Named d n) = ⊥
IsUnnamed shapes.Unknown = ⊥

-- the type of an array's elements, and the target of a pointer
abbrev pub element_of : {N D R : Type 0} → Shape N D R → Option N
element_of (shapes.Array n) = Some n
element_of (shapes.Pointer n) = None
element_of (shapes.Record r) = None
element_of shapes.Procedure = None
element_of (shapes.Named d n) = None
element_of shapes.Unknown = None

abbrev pub target_of : {N D R : Type 0} → Shape N D R → Option N
target_of (shapes.Array n) = None
target_of (shapes.Pointer n) = Some n
target_of (shapes.Record r) = None
target_of shapes.Procedure = None
target_of (shapes.Named d n) = None
target_of shapes.Unknown = None

-- the declaration is in the list of visited ones, which doesn't change
pub record IsRevisited {D : Type 0} (same : D → D → Bool) (d : D) (before after : List D) : Type 0 where
  pub among : list_any (same d) before ≡ true
  pub unchanged : after ≡ before

module _ {N D R : Type 0} (same : D → D → Bool) (shape : N → Shape N D R) where
  -- names lead from the first type to the second, which is no name, through declarations that haven't been visited; the two lists are the
  -- declarations visited before and after
  pub data Opens : List D → N → List D → N → Type 0 where
    plain : {met : List D} {n : N} → IsUnnamed (shape n) → Opens met n met n
    through : {met after : List D} {n m last : N} {d : D} → shape n ≡ shapes.Named d m → list_any (same d) met ≡ false → Opens (met ++ d ∷ []) m after last → Opens met n after last

  -- a type opens to another one: names lead there, starting with no visited declaration
  pub record OpensTo (n m : N) : Type 0 where
    pub met : List D
    pub opens : Opens [] n met m

  -- the type opens to an array whose elements have type m
  pub record HasElement (n m : N) : Type 0 where
    pub array : N
    pub opens : OpensTo n array
    pub is : element_of (shape array) ≡ Some m

  -- the type opens to a pointer whose target is m
  pub record HasTarget (n m : N) : Type 0 where
    pub pointer : N
    pub opens : OpensTo n pointer
    pub is : target_of (shape pointer) ≡ Some m

  module _ {F : Type 0} (field : R → Option F) (base : R → Option N) where
    -- a name denotes a field at a type: of the record that the type opens to, through pointers, or else of that record's base; a
    -- declaration is visited once in the whole search
    pub data DenotesField : List D → N → F → Type 0 where
      own : {met after : List D} {n m : N} {r : R} {f : F} → Opens met n after m → shape m ≡ shapes.Record r → field r ≡ Some f → DenotesField met n f
      pointed : {met after : List D} {n m next : N} {f : F} → Opens met n after m → shape m ≡ shapes.Pointer next → DenotesField after next f → DenotesField met n f
      inherited : {met after : List D} {n m next : N} {r : R} {f : F} → Opens met n after m → shape m ≡ shapes.Record r → field r ≡ None → base r ≡ Some next → DenotesField after next f → DenotesField met n f
