-- The graph of types; a node is the location of a type in the source (Oberon-07 report, sections 4 to 6 and 11).
use Rattle.std.specs.Prelude.{ℕ, zero, suc, nat_lt, Option, Some, None, Bool, true, false, ◌&&◌, ◌||◌, if◌then◌else◌, slice_get, List}
use Rattle.std.specs.Option.{option_map, option_and_then}
use Rattle.module_table.specs.declared.rows.TypePart.{TypePart}
use Rattle.module_table.specs.declared.rows.Part.{Part as PartRow}
use Rattle.module_table.specs.declared.rows.Part.TheVariants as parts
use Rattle.module_table.specs.declared.rows.Record.{Record as RecordRow}
use Rattle.module_table.specs.declared.rows.TypeName.{TypeName as NameRow}
use Rattle.module_table.specs.declared.rows.DeclKind.{DeclKind}
use Rattle.module_table.specs.declared.rows.DeclKind.TheVariants as decl_kinds
use Rattle.ob_interface.specs.Interfaces.{Simple, Qualified, Array, Pointer, Record as RecordPart, Procedure, Named as NamedPart, Base, Declaration, ModuleInterface, Part, TypeName}
use Rattle.type_graph.specs.declared.shape.Shape.{Shape}
use Rattle.type_graph.specs.declared.shape.Shape.TheVariants as shapes
use Rattle.ob_types.specs.declared.nodes.Node.{Node}
use Rattle.ob_types.specs.declared.nodes.Node.TheVariants as nodes
use Rattle.ob_types.specs.declared.nodes.Named.{Named}
use Rattle.ob_types.specs.declared.nodes.Named.TheVariants as named
use Rattle.ob_types.specs.declared.nodes.Record.{Record}
use Rattle.ob_types.specs.declared.nodes.Record.TheVariants as records
use Rattle.ob_types.specs.declared.nodes.Field.{Field}
use Rattle.ob_types.specs.declared.nodes.Field.TheVariants as fields
use Rattle.ob_view.specs.World.{World, text, meaning, decl_kind_of, type_index_of, item_of, field_at, record_at, module_number, module_of_item, exported_at, exported_index, imported_declaration, named_declaration, aliased_module_name, imported_part as part_row_there, imported_base}

-- the type at a node of the graph, with the nodes to which it leads
abbrev pub TypeShape : Type 0
TypeShape = Shape Node Named Record

-- the type in the option, or Unknown if there is none
abbrev pub shape_or_unknown : Option TypeShape → TypeShape
shape_or_unknown None = shapes.Unknown
shape_or_unknown (Some t) = t

-- whether a declaration is a type declaration
abbrev pub is_type : DeclKind → Bool
is_type decl_kinds.Import = false
is_type decl_kinds.Constant = false
is_type decl_kinds.Type = true
is_type decl_kinds.Variable = false
is_type decl_kinds.Procedure = false
is_type decl_kinds.Parameter = false
is_type decl_kinds.Field = false

-- ---- names

-- the named type that the declaration `it`, with the index `d` in the reached module `i`, gives; None if it isn't a type declaration
abbrev pub declared_type_shape : ℕ → ℕ → Declaration → Option TypeShape
declared_type_shape i d it = if is_type it.decl_kind then Some (shapes.Named (named.Other i d) (nodes.Other i d 0)) else None

-- the named type that declaration `d` of the reached module `i` gives; None if there is no such type declaration
unfoldable pub imported_type : World → ℕ → ℕ → Option TypeShape
imported_type w i d = option_and_then (declared_type_shape i d) (imported_declaration w i d)

-- the named type that the reached module `i` exports under this name; None if it exports no such type
unfoldable pub exported_type : World → List ℕ → ℕ → Option TypeShape
exported_type w name i = option_and_then (imported_type w i) (exported_index w i name)

-- the named type that the module declares at token `k`, where `s` is the kind of the declaration; None if it isn't a type declaration
abbrev pub type_as : World → ℕ → DeclKind → Option TypeShape
type_as w k s = if is_type s then option_map (λ (p : ℕ). shapes.Named (named.Own k) (nodes.Own p)) (type_index_of w k) else None

-- the named type that the module declares at token `k`; None if it declares no type there
unfoldable pub local_type : World → ℕ → Option TypeShape
local_type w k = option_and_then (type_as w k) (decl_kind_of w k)

-- the index, among the reached modules, of the module whose alias the use at token `head` means; None if it means no alias of one
unfoldable pub module_of_alias : World → ℕ → Option ℕ
module_of_alias w head = option_and_then (module_of_item w) (option_and_then (item_of w) (meaning w head))

-- the type that a name denotes in the module: the identifier at token `head`, or an alias there with the name after the dot. Unknown if the
-- name denotes no type
unfoldable pub resolve_type_name : World → ℕ → Option ℕ → TypeShape
resolve_type_name w head None = shape_or_unknown (option_and_then (local_type w) (meaning w head))
resolve_type_name w head (Some member) = shape_or_unknown (option_and_then (exported_type w (text w member)) (module_of_alias w head))

-- whether a name at the offset `start` of a type expression may mean the declaration `it` of its block: the declaration begins before the
-- name, or the name is the target of a pointer and the declaration is that of a type
abbrev pub may_mean : ℕ → Bool → Declaration → Bool
may_mean start is_target it = nat_lt it.start start || (is_target && is_type it.decl_kind)

-- the named type that the declaration `it` gives, if a name at the offset `start` may mean this declaration
abbrev pub type_if_visible : ℕ → ℕ → ℕ → Bool → Declaration → Option TypeShape
type_if_visible i d start is_target it = if may_mean start is_target it then declared_type_shape i d it else None

-- the named type that declaration `d` of the reached module `i` gives, if a name at the offset `start` may mean this declaration
unfoldable pub visible_type : World → ℕ → ℕ → Bool → ℕ → Option TypeShape
visible_type w i start is_target d = option_and_then (type_if_visible i d start is_target) (imported_declaration w i d)

-- the type that a name at the offset `start` denotes in the source of the reached module `i`; Unknown if it denotes none
unfoldable pub resolve_imported_name : World → ℕ → ℕ → Bool → TypeName → TypeShape
resolve_imported_name w i start is_target (Simple name) = shape_or_unknown (option_and_then (visible_type w i start is_target) (named_declaration w i name))
resolve_imported_name w i start is_target (Qualified alias name) = shape_or_unknown (option_and_then (exported_type w name) (option_and_then (module_number w) (aliased_module_name w i alias)))

-- ---- type expressions

-- the type at the component `p` of the module itself, which has the index `k` in the module table
abbrev pub local_shape : World → ℕ → TypePart → TypeShape
local_shape w k p = of p.part
  where
    of : PartRow → TypeShape
    of parts.Array = shapes.Array (nodes.Own (suc k))
    of parts.Pointer = shapes.Pointer (nodes.Own (suc k))
    of parts.Record = shapes.Record (records.Own p.number)
    of parts.Procedure = shapes.Procedure
    of (parts.Named member) = resolve_type_name w p.number member

-- whether there is a component and it is a pointer
abbrev pub is_pointer : Option Part → Bool
is_pointer None = false
is_pointer (Some Array) = false
is_pointer (Some Pointer) = true
is_pointer (Some (RecordPart k)) = false
is_pointer (Some Procedure) = false
is_pointer (Some (NamedPart start name)) = false

-- whether the component before index j is a pointer, so that the component j is a pointer's target
unfoldable pub is_pointer_target : World → ℕ → ℕ → ℕ → Bool
is_pointer_target w i d zero = false
is_pointer_target w i d (suc j) = is_pointer (part_row_there w i d j)

-- the type at the component with the index `j` in the type expression of declaration `d` of the reached module `i`
abbrev pub imported_part_shape : World → ℕ → ℕ → ℕ → Part → TypeShape
imported_part_shape w i d j Array = shapes.Array (nodes.Other i d (suc j))
imported_part_shape w i d j Pointer = shapes.Pointer (nodes.Other i d (suc j))
imported_part_shape w i d j (RecordPart k) = shapes.Record (records.Other i k)
imported_part_shape w i d j Procedure = shapes.Procedure
imported_part_shape w i d j (NamedPart start name) = resolve_imported_name w i start (is_pointer_target w i d j) name

-- ---- the graph of types

-- the type that the name of the base `b` denotes in the source of the reached module `i`
abbrev pub imported_base_shape : World → ℕ → Base → TypeShape
imported_base_shape w i b = resolve_imported_name w i b.start false b.name

-- the type at a node of the graph; Unknown if there is no such component or base, or if a name there denotes no type
unfoldable pub shape : World → Node → TypeShape
shape w (nodes.Own k) = shape_or_unknown (option_map (local_shape w k) (slice_get w.rows.parts k))
shape w (nodes.Name head member) = resolve_type_name w head member
shape w (nodes.Other i d j) = shape_or_unknown (option_map (imported_part_shape w i d j) (part_row_there w i d j))
shape w (nodes.OtherBase i r) = shape_or_unknown (option_map (imported_base_shape w i) (imported_base w i r))

-- the field of this name that the record itself declares, not one of its bases. Of a reached module only exported fields count
unfoldable pub field_of : World → Record → List ℕ → Option Field
field_of w (records.Own r) name = option_map fields.Own (field_at w r name)
field_of w (records.Other i r) name = option_map (fields.Other i) (option_and_then (λ (m : ModuleInterface). exported_at m (Some r) name) (slice_get w.reached i))

-- the node of the name of the base of this record of the module itself; None if the record has no base
abbrev pub base_name : RecordRow → Option Node
base_name row = option_map (λ (b : NameRow). nodes.Name b.head b.member) row.base

-- the node of the name of a record's base; None if the record has no base
unfoldable pub base_of : World → Record → Option Node
base_of w (records.Own r) = option_and_then base_name (record_at w r)
base_of w (records.Other i r) = option_map (λ (b : Base). nodes.OtherBase i r) (imported_base w i r)

-- the node of the declared type of the identifier at token `k`; None if the token declares nothing that has a type
unfoldable pub type_node_of : World → ℕ → Option Node
type_node_of w k = option_map nodes.Own (type_index_of w k)

-- the node of the declared type of a field
unfoldable pub type_of_field : World → Field → Option Node
type_of_field w (fields.Own k) = type_node_of w k
type_of_field w (fields.Other i d) = Some (nodes.Other i d 0)
