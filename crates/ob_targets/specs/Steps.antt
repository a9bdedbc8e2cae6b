-- The designator types of the prefixes of a designator, from left to right (Oberon-07 report, section 8.1).
use Rattle.std.specs.Prelude.{◌≡◌, ℕ, zero, suc, ◌==◌, List, [], slice_get, Option, Some, None, Bool, true, false, not}
use Rattle.module_table.specs.declared.rows.Selector.{Selector}
use Rattle.module_table.specs.declared.rows.Step.{Step}
use Rattle.module_table.specs.declared.rows.Step.TheVariants as steps
use Rattle.module_table.specs.declared.rows.TypeName.{TypeName}
use Rattle.type_graph.specs.declared.shape.Shape.TheVariants as shapes
use Rattle.type_graph.specs.Searches.{DenotesField, HasElement, HasTarget}
use Rattle.ob_types.specs.declared.nodes.Node.{Node}
use Rattle.ob_types.specs.declared.nodes.Node.TheVariants as nodes
use Rattle.ob_types.specs.declared.nodes.Field.{Field}
use Rattle.ob_view.specs.World.{World, text}
use Rattle.ob_types.specs.SameDeclaration.{same}
use Rattle.ob_types.specs.Shapes.{shape, field_of, base_of, resolve_type_name}
use Rattle.ob_view.specs.declared.target.Target.{Target}
use Rattle.ob_view.specs.declared.target.Target.TheVariants as targets
use Rattle.ob_targets.specs.declared.designator_type.DesignatorType.{DesignatorType}
use Rattle.ob_targets.specs.declared.designator_type.DesignatorType.TheVariants as knowns
use Rattle.ob_targets.specs.Targets.{exported_target, field_target, target_type, use_target}

-- the second designator type is the one after a step along the relation `Leads` from the first one: the type to which `Leads` leads, or
-- Nothing if it leads to none, or if no type is known before the step
pub data Follows (Leads : Node → Node → Type 0) : DesignatorType → DesignatorType → Type 0 where
  there : {n m : Node} → Leads n m → Follows Leads (knowns.Typed n) (knowns.Typed m)
  nowhere : {n : Node} → ((m : Node) → Leads n m → ⊥) → Follows Leads (knowns.Typed n) knowns.Nothing
  of_module : {at : ℕ} → Follows Leads (knowns.«Module» at) knowns.Nothing
  of_nothing : Follows Leads knowns.Nothing knowns.Nothing

-- the designator type after a selector in parentheses: if the parentheses contain only the name of a type (a type guard), this type, and
-- otherwise Nothing
abbrev pub guard_type : World → Option TypeName → DesignatorType
guard_type w None = knowns.Nothing
guard_type w (Some t) = elim (resolve_type_name w t.head t.member) [
  | shapes.Array n ↦ knowns.Nothing
  | shapes.Pointer n ↦ knowns.Nothing
  | shapes.Record r ↦ knowns.Nothing
  | shapes.Procedure ↦ knowns.Nothing
  | shapes.Named d n ↦ knowns.Typed (nodes.Name t.head t.member)
  | shapes.Unknown ↦ knowns.Nothing
]

-- whether the selector `s`, at this index, is the first selector of its designator: the selector before it belongs to another designator
abbrev pub begins_designator : List Selector → ℕ → Selector → Bool
begins_designator selectors zero s = true
begins_designator selectors (suc i) s = elim (slice_get selectors i) [ None ↦ true | Some before ↦ not (before.of == s.of) ]

module _ (w : World) where
  -- after a value of the type `n` and a dot, `name` denotes the field `f`
  abbrev pub FindsField : Node → List ℕ → Field → Type 0
  FindsField n name f = DenotesField same (shape w) (λ r. field_of w r name) (base_of w) [] n f

  -- the name at token `k`, after a dot, denotes this target, if this is the designator type before the dot
  pub data Selects : DesignatorType → ℕ → Target → Type 0 where
    exported : {at k : ℕ} → Selects (knowns.«Module» at) k (exported_target w at k)
    field : {n : Node} {k : ℕ} {f : Field} → FindsField n (text w k) f → Selects (knowns.Typed n) k (field_target f)
    no_field : {n : Node} {k : ℕ} → ((f : Field) → FindsField n (text w k) f → ⊥) → Selects (knowns.Typed n) k targets.Unresolved
    unknown : {k : ℕ} → Selects knowns.Nothing k targets.Unresolved

  -- from the first designator type, this number of index expressions leads to the second one; each leads from an array to its element type
  pub data Levels : ℕ → DesignatorType → DesignatorType → Type 0 where
    none : {o : DesignatorType} → Levels 0 o o
    one : {c : ℕ} {o next last : DesignatorType} → Levels c o next → Follows (HasElement same (shape w)) next last → Levels (suc c) o last

  -- from the designator type `o`, this selector leads to this designator type
  pub data StepsTo (o : DesignatorType) : Step → DesignatorType → Type 0 where
    to_field : {k : ℕ} {t : Target} → Selects o k t → StepsTo o (steps.Field k) (target_type w t)
    to_elements : {c : ℕ} {next : DesignatorType} → Levels c o next → StepsTo o (steps.Elements c) next
    to_target : {next : DesignatorType} → Follows (HasTarget same (shape w)) o next → StepsTo o steps.Target next
    by_guard : {t : Option TypeName} → StepsTo o (steps.Arguments t) (guard_type w t)

  -- this is the designator type before the selector at this index: that of the designator's head with the selectors before this one
  pub data IsTypeBefore : ℕ → DesignatorType → Type 0 where
    at_head : {i : ℕ} {s : Selector} → slice_get w.rows.selectors i ≡ Some s → begins_designator w.rows.selectors i s ≡ true → IsTypeBefore i (target_type w (use_target w s.of))
    behind : {i : ℕ} {s t : Selector} {o next : DesignatorType} → slice_get w.rows.selectors i ≡ Some s → slice_get w.rows.selectors (suc i) ≡ Some t →
        begins_designator w.rows.selectors (suc i) t ≡ false → IsTypeBefore i o → StepsTo o s.step next → IsTypeBefore (suc i) next
