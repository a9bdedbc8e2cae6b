-- The symbols of targets, in the grammar of SCIP symbols (scip.proto, `Symbol`).
use Rattle.std.specs.Prelude.{ℕ, zero, suc, ◌==◌, List, [], ◌∷◌, ◌++◌, codes, Bool, true, false, not, nat_lt, Option, Some, None, slice_get, take, count_by, position, if◌then◌else◌}
use Rattle.std.specs.Option.{option_map, option_map_or, option_and_then}
use Rattle.std.specs.Fmt.{decimal}
use Rattle.module_table.specs.declared.rows.Declared.{Declared}
use Rattle.module_table.specs.declared.rows.DeclGroup.{DeclGroup}
use Rattle.module_table.specs.declared.rows.Import.{Import}
use Rattle.module_table.specs.declared.rows.DeclKind.{DeclKind}
use Rattle.module_table.specs.declared.rows.DeclKind.TheVariants as decl_kinds
use Rattle.module_table.specs.Tables.{module_name_token}
use Rattle.ob_interface.specs.Interfaces.{Declaration, ModuleInterface}
use Rattle.ob_interface.specs.Placed.{declaration_at, owner_index}
use Rattle.ob_view.specs.World.{World, text, decl_group_from, decl_group_of, owner_at, module_of_item}
use Rattle.ob_view.specs.declared.target.Target.{Target}
use Rattle.ob_view.specs.declared.target.Target.TheVariants as targets
use Rattle.scip_symbol.specs.declared.kind.DescriptorKind.{DescriptorKind}
use Rattle.scip_symbol.specs.declared.kind.DescriptorKind.TheVariants.{Namespace, TypeName, Term, Method}
use Rattle.scip_symbol.specs.SymbolTexts.{DescriptorModel, SymbolModel, Local, Global}

-- the scheme of all symbols of this program
abbrev pub scheme : List ℕ
scheme = codes "scip-oberon"

-- a global symbol of this package
abbrev pub global : List ℕ → List DescriptorModel → SymbolModel
global package_name path = Global scheme [] package_name [] path

-- a descriptor without a disambiguator
abbrev pub descriptor : DescriptorKind → List ℕ → DescriptorModel
descriptor kind name = record { kind = kind; name = name; disambiguator = [] }

-- the path of a module of this name, its only descriptor: `M/`
abbrev pub module_path : List ℕ → List DescriptorModel
module_path name = descriptor Namespace name ∷ []

-- the kind of a declaration's descriptor: a type is `T#`, a procedure `p().`, and all else `x.`; an import item has none
abbrev pub descriptor_kind : DeclKind → Option DescriptorKind
descriptor_kind decl_kinds.Import = None
descriptor_kind decl_kinds.Constant = Some Term
descriptor_kind decl_kinds.Type = Some TypeName
descriptor_kind decl_kinds.Variable = Some Term
descriptor_kind decl_kinds.Procedure = Some Method
descriptor_kind decl_kinds.Parameter = Some Term
descriptor_kind decl_kinds.Field = Some Term

-- ---- paths

-- the last step of a declaration's path: its own descriptor, and for a field the number of its owner, the declaration whose type holds the
-- record
pub record PathStep : Type 0 where
  pub own : DescriptorModel
  pub owner : Option ℕ

-- the last step of the path of a declaration in the module's block, by its kind and name; None for an import item
abbrev pub step_in_block : DeclKind → List ℕ → Option PathStep
step_in_block decl_kind name = option_map (λ kind. record { own = descriptor kind name; owner = None }) (descriptor_kind decl_kind)

-- the last step of the path of a field, by its number, its name and its owner's number; None without an owner, or if the owner's number
-- isn't smaller
abbrev pub step_in_record : ℕ → List ℕ → Option ℕ → Option PathStep
step_in_record k name None = None
step_in_record k name (Some o) = if nat_lt o k then Some (record { own = descriptor Term name; owner = Some o }) else None

-- the path of declaration `k`: the path of its owner, or the path of the module `m` if it has no owner, and then its own descriptor. None
-- if it or an owner on its path has no step, or if its path has more steps than the given number
unfoldable pub path_within : List ℕ → (ℕ → Option PathStep) → ℕ → ℕ → Option (List DescriptorModel)
path_within m steps zero k = None
path_within m steps (suc n) k =
    option_and_then (λ (s : PathStep). option_map (λ (ds : List DescriptorModel). ds ++ s.own ∷ []) (option_map_or (path_within m steps n) s.owner (Some (module_path m)))) (steps k)

-- the path of declaration `k` of module `m`. Each owner has a smaller number than what it owns, so `k + 1` steps suffice
abbrev pub path : List ℕ → (ℕ → Option PathStep) → ℕ → Option (List DescriptorModel)
path m steps k = path_within m steps (suc k) k

-- ---- the module's own declarations, by token number

-- the last path step of the declaration at token `k`, by its kind, and for a field by its record
abbrev pub declared_step_by : World → ℕ → DeclKind → Option ℕ → Option PathStep
declared_step_by w k decl_kind None = step_in_block decl_kind (text w k)
declared_step_by w k decl_kind (Some r) = step_in_record k (text w k) (owner_at w r)

-- the last path step of the declaration at token `k`, which is in this declaration group. None if the group isn't in the module's block,
-- for an import item, and for a field whose owner isn't declared before it
abbrev pub declared_step : World → ℕ → DeclGroup → Option PathStep
declared_step w k by = if by.block == 0 then declared_step_by w k by.decl_kind by.of_record else None

-- the last path step of the declaration at token `k`; None unless it is in the module's block or in a record there
abbrev pub declared_steps : World → ℕ → Option PathStep
declared_steps w k = option_and_then (declared_step w k) (decl_group_of w k)

-- the path of the declaration at token `k`; None unless it is in the module's block or in a record there
abbrev pub declared_path : World → ℕ → Option (List DescriptorModel)
declared_path w k = path (text w module_name_token) (declared_steps w) k

-- whether an identifier, which can also be a field, is declared in another block than the module's
abbrev pub is_local : World → Declared → Bool
is_local w d = option_map_or (λ (by : DeclGroup). not (by.block == 0)) (decl_group_from w d.declared_by) false

-- the symbol of the declaration `d` at index `i`; None if it has none. A declaration in the block of a procedure or of a procedure type has
-- a local symbol, whose number is the number of such declarations before it
abbrev pub symbol_at : World → List ℕ → ℕ → Declared → Option SymbolModel
symbol_at w package_name i d =
    if is_local w d then Some (Local (decimal (count_by (is_local w) (take i w.rows.declared))))
    else option_map (global package_name) (declared_path w d.number)

-- the symbol of the declaration at token `k`; None if the token declares nothing, or if the declaration has no symbol
abbrev pub declared_symbol : World → List ℕ → ℕ → Option SymbolModel
declared_symbol w package_name k =
    option_and_then (λ (i : ℕ). option_and_then (symbol_at w package_name i) (slice_get w.rows.declared i)) (position (λ (d : Declared). d.number == k) w.rows.declared)

-- ---- declarations of another module, by their indices in its interface

-- the last path step of the declaration at index `d` of an interface: in this record if it is a field, or else in the module's block
abbrev pub step_by : ModuleInterface → ℕ → Declaration → Option ℕ → Option PathStep
step_by m d it None = step_in_block it.decl_kind it.name
step_by m d it (Some r) = step_in_record d it.name (owner_index m r)

-- the last path step of the declaration `it` at index `d` of an interface
abbrev pub interface_step : ModuleInterface → ℕ → Declaration → Option PathStep
interface_step m d it = step_by m d it it.of_record

-- the last path step of the declaration at index `d` of an interface; None if there is no such declaration, or if it has no path step
abbrev pub interface_steps : ModuleInterface → ℕ → Option PathStep
interface_steps m d = option_and_then (interface_step m d) (declaration_at m d)

-- the path of the declaration at index `d` of an interface; None if there is no such declaration, or if it has no path
abbrev pub interface_path : ModuleInterface → ℕ → Option (List DescriptorModel)
interface_path m d = path m.name (interface_steps m) d

-- the symbol of the declaration at index `d` in the interface of the reached module at index `i`; None if there is no such declaration, or
-- if it has no symbol
abbrev pub imported_symbol : World → List ℕ → ℕ → ℕ → Option SymbolModel
imported_symbol w package_name i d = option_and_then (λ (m : ModuleInterface). option_map (global package_name) (interface_path m d)) (slice_get w.reached i)

-- ---- modules

-- the package of the module that an import item names: the given package for a module of the tree, and otherwise the empty string
abbrev pub package_of : World → List ℕ → ℕ → List ℕ
package_of w package_name item = option_map_or (λ (module_number : ℕ). package_name) (module_of_item w item) []

-- the symbol of the module that the import item at this index names; None if there is no such item
abbrev pub module_symbol : World → List ℕ → ℕ → Option SymbolModel
module_symbol w package_name item = option_map (λ (i : Import). global (package_of w package_name item) (module_path (text w i.imported))) (slice_get w.rows.imports item)

-- the symbol of the name at token `name` of a module that isn't in the tree: `N/x.`, without a package; None if there is no import item at
-- this index
abbrev pub external_symbol : World → ℕ → ℕ → Option SymbolModel
external_symbol w item name =
    option_map (λ (i : Import). global [] (module_path (text w i.imported) ++ descriptor Term (text w name) ∷ [])) (slice_get w.rows.imports item)

-- ---- targets

-- the symbol of a target; predeclared names and Unresolved have none
abbrev pub symbol_of : World → List ℕ → Target → Option SymbolModel
symbol_of w package_name (targets.Declared k) = declared_symbol w package_name k
symbol_of w package_name (targets.Imported i d) = imported_symbol w package_name i d
symbol_of w package_name (targets.External item name) = external_symbol w item name
symbol_of w package_name targets.Own = Some (global package_name (module_path (text w module_name_token)))
symbol_of w package_name (targets.«Module» item) = module_symbol w package_name item
symbol_of w package_name targets.Predeclared = None
symbol_of w package_name targets.Unresolved = None

-- whether the target is neither a predeclared name nor Unresolved
abbrev pub denotes_something : Target → Bool
denotes_something (targets.Declared k) = true
denotes_something (targets.Imported i d) = true
denotes_something (targets.External item name) = true
denotes_something targets.Own = true
denotes_something (targets.«Module» item) = true
denotes_something targets.Predeclared = false
denotes_something targets.Unresolved = false

-- whether the target is a declaration of another module of the tree
abbrev pub is_of_another_module : Target → Bool
is_of_another_module (targets.Declared k) = false
is_of_another_module (targets.Imported i d) = true
is_of_another_module (targets.External item name) = false
is_of_another_module targets.Own = false
is_of_another_module (targets.«Module» item) = false
is_of_another_module targets.Predeclared = false
is_of_another_module targets.Unresolved = false
