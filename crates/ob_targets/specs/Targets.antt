-- The targets of names, and the roles of their uses (Oberon-07 report, sections 4, 6.1, 8.1, 9.1 and 11).
use Rattle.std.specs.Prelude.{ℕ, ◌==◌, List, Option, Some, None, Bool, true, false, ◌&&◌, if◌then◌else◌, nat_eq}
use Rattle.std.specs.List.{filter, fold, list_any}
use Rattle.std.specs.Option.{unwrap_or}
use Rattle.module_table.specs.declared.rows.Designator.{Designator}
use Rattle.module_table.specs.declared.rows.Selector.{Selector}
use Rattle.module_table.specs.declared.rows.DeclKind.{DeclKind}
use Rattle.module_table.specs.declared.rows.DeclKind.TheVariants as decl_kinds
use Rattle.module_table.specs.Parts.{Rows}
use Rattle.ob_types.specs.declared.nodes.Node.{Node}
use Rattle.ob_types.specs.declared.nodes.Node.TheVariants as nodes
use Rattle.ob_types.specs.declared.nodes.Field.{Field}
use Rattle.ob_types.specs.declared.nodes.Field.TheVariants as fields
use Rattle.ob_view.specs.World.{World, text, meaning, decl_kind_of, item_of, module_of_item, exported_index, imported_kind}
use Rattle.ob_types.specs.Shapes.{type_node_of}
use Rattle.ob_targets.specs.Predeclared.{is_predeclared}
use Rattle.ob_targets.specs.SyntaxPosition.{name_of}
use Rattle.ob_view.specs.declared.target.Target.{Target}
use Rattle.ob_view.specs.declared.target.Target.TheVariants as targets
use Rattle.ob_targets.specs.declared.designator_type.DesignatorType.{DesignatorType}
use Rattle.ob_targets.specs.declared.designator_type.DesignatorType.TheVariants as knowns

-- ---- targets

-- the target of a use that means the declaration at token `d`: if this is the alias of an import item, the module that the item names, and
-- otherwise the declaration itself
abbrev pub declared_target : World → ℕ → Target
declared_target w d = elim (item_of w d) [ None ↦ targets.Declared d | Some at ↦ targets.«Module» at ]

-- the target of the use at token `k`: that of the declaration which it means by the scopes, or else Predeclared if the name is predeclared,
-- or else Unresolved
abbrev pub use_target : World → ℕ → Target
use_target w k = elim (meaning w k) [ Some d ↦ declared_target w d | None ↦ if is_predeclared (text w k) then targets.Predeclared else targets.Unresolved ]

-- the target of the name at token `k` after a module and a dot. For a module of the tree it is the declaration that the module exports
-- under this name, or Unresolved if there is none. For any other module it is the name itself, as External
abbrev pub exported_target : World → ℕ → ℕ → Target
exported_target w at k = elim (module_of_item w at) [ None ↦ targets.External at k | Some i ↦ elim (exported_index w i (text w k)) [ None ↦ targets.Unresolved | Some d ↦ targets.Imported i d ] ]

-- the target of the identifier at token `k`, the second one of a qualident, by the target of the first one; Unresolved if that is no module
abbrev pub qualident_member_target : World → ℕ → Target → Target
qualident_member_target w k (targets.«Module» at) = exported_target w at k
qualident_member_target w k (targets.Declared d) = targets.Unresolved
qualident_member_target w k (targets.Imported i d) = targets.Unresolved
qualident_member_target w k (targets.External at n) = targets.Unresolved
qualident_member_target w k targets.Own = targets.Unresolved
qualident_member_target w k targets.Predeclared = targets.Unresolved
qualident_member_target w k targets.Unresolved = targets.Unresolved

-- the target of the name after END: the procedure declared at this token, or the module itself if there is no token
abbrev pub end_target : Option ℕ → Target
end_target None = targets.Own
end_target (Some k) = targets.Declared k

-- the target of a name that denotes this field
abbrev pub field_target : Field → Target
field_target (fields.Own k) = targets.Declared k
field_target (fields.Other i d) = targets.Imported i d

-- ---- designator types of targets

-- whether a declaration of this kind holds a value: a variable, a parameter or a field
abbrev pub holds_value : DeclKind → Bool
holds_value decl_kinds.Import = false
holds_value decl_kinds.Constant = false
holds_value decl_kinds.Type = false
holds_value decl_kinds.Variable = true
holds_value decl_kinds.Procedure = false
holds_value decl_kinds.Parameter = true
holds_value decl_kinds.Field = true

-- the designator type of a declaration of this kind and type: the type if the declaration holds a value, and otherwise Nothing
abbrev pub type_if_value : Option DeclKind → Option Node → DesignatorType
type_if_value None type_expr = knowns.Nothing
type_if_value (Some s) None = knowns.Nothing
type_if_value (Some s) (Some n) = if holds_value s then knowns.Typed n else knowns.Nothing

-- the designator type of a target: the module, or the type of a declaration that holds a value, and otherwise Nothing
abbrev pub target_type : World → Target → DesignatorType
target_type w (targets.Declared k) = type_if_value (decl_kind_of w k) (type_node_of w k)
target_type w (targets.Imported i d) = type_if_value (imported_kind w i d) (Some (nodes.Other i d 0))
target_type w (targets.External at n) = knowns.Nothing
target_type w targets.Own = knowns.Nothing
target_type w (targets.«Module» at) = knowns.«Module» at
target_type w targets.Predeclared = knowns.Nothing
target_type w targets.Unresolved = knowns.Nothing

-- ---- roles

-- the selectors of the designator with this head, in order
abbrev pub selectors_of : Rows → ℕ → List Selector
selectors_of rows head = filter (λ (s : Selector). nat_eq s.of head) rows.selectors

-- the token number of the last name of a designator: of the last name after a dot among its selectors, or else of its head. Names inside
-- brackets don't count
abbrev pub last_name : ℕ → List Selector → ℕ
last_name head selectors = fold (λ last (s : Selector). unwrap_or (name_of s.step) last) head selectors

-- whether the designator `d` is the left side of an assignment or the variable of a FOR, and token `k` is its last name
abbrev pub writes : Rows → ℕ → Designator → Bool
writes rows k d = d.is_written && (last_name d.head (selectors_of rows d.head) == k)

-- whether token `k` is the last name of a designator that is the left side of an assignment or the variable of a FOR
abbrev pub is_written : Rows → ℕ → Bool
is_written rows k = list_any (writes rows k) rows.designators

-- the role of a use of a declaration of this kind. If the declaration holds a value, the role is 4 for a write and 8 for a read, and
-- otherwise 0
abbrev pub value_role : Option DeclKind → Bool → ℕ
value_role None written = 0
value_role (Some s) written = if holds_value s then (if written then 4 else 8) else 0

-- the role of a use of this target. If the target is a declaration that holds a value, the role is 4 for a write and 8 for a read, and
-- otherwise 0
abbrev pub use_role : World → Target → Bool → ℕ
use_role w (targets.Declared k) written = value_role (decl_kind_of w k) written
use_role w (targets.Imported i d) written = value_role (imported_kind w i d) written
use_role w (targets.External at n) written = 0
use_role w targets.Own written = 0
use_role w (targets.«Module» at) written = 0
use_role w targets.Predeclared written = 0
use_role w targets.Unresolved written = 0
