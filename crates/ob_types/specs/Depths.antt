-- The depth of types, down to the names in them. It bounds the steps of a search between two names.
use Rattle.std.specs.Prelude.{ℕ, ◌+◌, ◌-◌, length}
use Rattle.std.specs.List.{sum_by}
use Rattle.std.specs.Option.{option_map, unwrap_or}
use Rattle.ob_interface.specs.Interfaces.{Declaration, ModuleInterface}
use Rattle.ob_types.specs.declared.nodes.Node.{Node}
use Rattle.ob_types.specs.declared.nodes.Node.TheVariants as nodes
use Rattle.ob_view.specs.World.{World, imported_declaration}

-- the number of components in the type expression of a declaration
abbrev pub part_count : Declaration → ℕ
part_count it = length it.type_expr

-- the number of components in the type expression of declaration `d` of the reached module `i`; 0 if there is no such declaration
unfoldable pub imported_part_count : World → ℕ → ℕ → ℕ
imported_part_count w i d = unwrap_or (option_map part_count (imported_declaration w i d)) 0

-- the depth of the type at a node. For a component it is the number of components from it to the end of its list, plus one. For a name that
-- is no component it is 0
unfoldable pub depth : World → Node → ℕ
depth w (nodes.Own k) = length w.rows.parts + 1 - k
depth w (nodes.Name head member) = 0
depth w (nodes.Other i d j) = imported_part_count w i d + 1 - j
depth w (nodes.OtherBase i r) = 0

-- the number of components in all type expressions of a module's interface
abbrev pub all_parts : ModuleInterface → ℕ
all_parts m = sum_by part_count m.declarations

-- a bound above the depth of every type
unfoldable pub height : World → ℕ
height w = length w.rows.parts + sum_by all_parts w.reached + 2
