-- One induction over the productions of types, for whatever is shown of the trees of each of them.
use Rattle.std.proofs.Common.{◌≡◌, Option, Some, None, subst}
use Rattle.std.specs.declared.boxed.Box.{Box}
use Rattle.std.specs.declared.alloc.Global.{Global}
use Rattle.ob_tree.specs.declared.declaration.TypeForm.TheShapes as shapes
use Rattle.ob_tree.specs.declared.declaration.TypeForm.{TypeForm, TypeForm-F, roll-TypeForm, ind-TypeForm, map-TypeForm}
use Rattle.ob_tree.specs.declared.declaration.Fields.{Fields, Fields-F, roll-Fields, map-Fields}
use Rattle.ob_tree.specs.declared.declaration.Record.{Record, Record-F, roll-Record, map-Record}
use Rattle.ob_tree.specs.declared.declaration.VarDecl.{VarDecl, VarDecl-F, roll-VarDecl, ind-VarDecl, map-VarDecl}
use Rattle.ob_tree.proofs.ExpressionInduction.{With}

-- what is shown of the trees of each production
pub record TypePredicates : Type 1 where
  pub type : TypeForm → Type 0
  pub fields : Fields → Type 0
  pub record_type : Record → Type 0
  pub var : VarDecl → Type 0

-- a layer, with a tree for each child

abbrev pub TypeLayer : Type 0
TypeLayer = TypeForm-F TypeForm Fields Record VarDecl

abbrev pub FieldsLayer : Type 0
FieldsLayer = Fields-F TypeForm Fields Record VarDecl

abbrev pub RecordLayer : Type 0
RecordLayer = Record-F TypeForm Fields Record VarDecl

abbrev pub VarLayer : Type 0
VarLayer = VarDecl-F TypeForm Fields Record VarDecl

-- a layer whose children carry their proofs, and the layer without them

abbrev pub WithType : TypePredicates → Type 0
WithType F = TypeForm-F (With F.type) (With F.fields) (With F.record_type) (With F.var)

abbrev pub type_of : (F : TypePredicates) → WithType F → TypeLayer
type_of F = map-TypeForm (With F.type) (With F.fields) (With F.record_type) (With F.var) TypeForm Fields Record VarDecl (λ e. e.0) (λ e. e.0) (λ e. e.0) (λ e. e.0)

abbrev pub WithFields : TypePredicates → Type 0
WithFields F = Fields-F (With F.type) (With F.fields) (With F.record_type) (With F.var)

abbrev pub fields_of : (F : TypePredicates) → WithFields F → FieldsLayer
fields_of F = map-Fields (With F.type) (With F.fields) (With F.record_type) (With F.var) TypeForm Fields Record VarDecl (λ e. e.0) (λ e. e.0) (λ e. e.0) (λ e. e.0)

abbrev pub WithRecord : TypePredicates → Type 0
WithRecord F = Record-F (With F.type) (With F.fields) (With F.record_type) (With F.var)

abbrev pub record_of : (F : TypePredicates) → WithRecord F → RecordLayer
record_of F = map-Record (With F.type) (With F.fields) (With F.record_type) (With F.var) TypeForm Fields Record VarDecl (λ e. e.0) (λ e. e.0) (λ e. e.0) (λ e. e.0)

abbrev pub WithVar : TypePredicates → Type 0
WithVar F = VarDecl-F (With F.type) (With F.fields) (With F.record_type) (With F.var)

abbrev pub var_of : (F : TypePredicates) → WithVar F → VarLayer
var_of F = map-VarDecl (With F.type) (With F.fields) (With F.record_type) (With F.var) TypeForm Fields Record VarDecl (λ e. e.0) (λ e. e.0) (λ e. e.0) (λ e. e.0)

-- the fields of a record, which may have none

fields_in : (F : TypePredicates) (Q : Option (Box Fields Global) → Type 0) → Q None → ((f : Box Fields Global) → F.fields f.value → Q (Some f)) → (o : Option (Box (With F.fields) Global)) →
    Q ((shapes.former-Record-fields).map (With F.fields) Fields (λ e. e.0) o)
fields_in F Q none some None = none
fields_in F Q none some (Some f) = some _ f.value.1

pub record_fields : (F : TypePredicates) (Q : Option (Box Fields Global) → Type 0) → Q None → ((f : Box Fields Global) → F.fields f.value → Q (Some f)) → (y : WithRecord F) → Q (record_of F y).fields
record_fields F Q none some y = fields_in F Q none some y.fields

-- the induction step of each production: from the children to the tree
pub record TypeSteps (F : TypePredicates) : Type 0 where
  pub type : (y : WithType F) → F.type (roll-TypeForm (type_of F y))
  pub fields : (y : WithFields F) → F.fields (roll-Fields (fields_of F y))
  pub record_type : (y : WithRecord F) → F.record_type (roll-Record (record_of F y))
  pub var : (y : WithVar F) → F.var (roll-VarDecl (var_of F y))

module _ (F : TypePredicates) (steps : TypeSteps F) where
  type_step : (x : TypeLayer) (y : WithType F) → type_of F y ≡ x → F.type (roll-TypeForm x)
  type_step x y is = subst (λ (z : TypeLayer). F.type (roll-TypeForm z)) is (steps.type y)

  fields_step : (x : FieldsLayer) (y : WithFields F) → fields_of F y ≡ x → F.fields (roll-Fields x)
  fields_step x y is = subst (λ (z : FieldsLayer). F.fields (roll-Fields z)) is (steps.fields y)

  record_step : (x : RecordLayer) (y : WithRecord F) → record_of F y ≡ x → F.record_type (roll-Record x)
  record_step x y is = subst (λ (z : RecordLayer). F.record_type (roll-Record z)) is (steps.record_type y)

  var_step : (x : VarLayer) (y : WithVar F) → var_of F y ≡ x → F.var (roll-VarDecl x)
  var_step x y is = subst (λ (z : VarLayer). F.var (roll-VarDecl z)) is (steps.var y)

  pub type_induction : (t : TypeForm) → F.type t
  type_induction = ind-TypeForm F.type F.fields F.record_type F.var type_step fields_step record_step var_step

  pub var_induction : (t : VarDecl) → F.var t
  var_induction = ind-VarDecl F.type F.fields F.record_type F.var type_step fields_step record_step var_step
