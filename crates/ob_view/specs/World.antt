-- A module with the modules that it reaches, and look-ups in them. If several entries match, a look-up gives the first one in file order; a
-- module without duplicates has at most one.
use Rattle.std.specs.Prelude.{ℕ, nat_eq, ◌==◌, List, slice_get, Option, Some, None, Bool, ◌&&◌, if◌then◌else◌, position, find}
use Rattle.std.specs.Option.{option_eq, option_map, option_and_then}
use Rattle.std.specs.Str.{bytes_eq}
use Rattle.ob_scan.specs.declared.token.Token.{Token}
use Rattle.ob_scan.specs.Texts.{text_at}
use Rattle.module_table.specs.declared.rows.Declared.{Declared}
use Rattle.module_table.specs.declared.rows.DeclGroup.{DeclGroup}
use Rattle.module_table.specs.declared.rows.TypePart.{TypePart}
use Rattle.module_table.specs.declared.rows.Import.{Import}
use Rattle.module_table.specs.declared.rows.Record.{Record as RecordRow}
use Rattle.module_table.specs.declared.rows.DeclKind.{DeclKind}
use Rattle.module_table.specs.Parts.{Rows}
use Rattle.ob_interface.specs.Interfaces.{Base, Declaration, ModuleInterface, Part}
use Rattle.ob_interface.specs.Placed.{index_of, declaration_at, type_part, module_named, base_named, owner_index}
use Rattle.scopes.specs.Scoped.{Meaning, ModuleScopes}

-- a module's bytes, tokens, table entries and scopes, and the interfaces of the modules of its tree that it imports directly or indirectly,
-- sorted by name
pub record World : Type 0 where
  pub bytes : List ℕ
  pub tokens : List Token
  pub rows : Rows
  pub scopes : ModuleScopes
  pub reached : List ModuleInterface

-- a module with these bytes, tokens, entries, scopes and reached interfaces
abbrev pub world : List ℕ → List Token → Rows → ModuleScopes → List ModuleInterface → World
world bytes tokens rows scopes reached = record { bytes = bytes; tokens = tokens; rows = rows; scopes = scopes; reached = reached }

-- ---- the module itself

-- the bytes of token `k` of the module
unfoldable pub text : World → ℕ → List ℕ
text w k = text_at w.bytes w.tokens k

-- the token of the declaration that the use at token `k` means; None if it means none
unfoldable pub meaning : World → ℕ → Option ℕ
meaning w k = option_map (λ (m : Meaning). m.declared) (find (λ (m : Meaning). m.used == k) w.scopes.meanings)

-- the entry of the identifier that token `k` declares; None if it declares none
unfoldable pub declared_at : World → ℕ → Option Declared
declared_at w k = find (λ (d : Declared). d.number == k) w.rows.declared

-- the declaration group whose first token is `first`; None if there is none
unfoldable pub decl_group_from : World → ℕ → Option DeclGroup
decl_group_from w first = find (λ (c : DeclGroup). c.first == first) w.rows.decl_groups

-- the declaration group of the identifier that token `k` declares; None if it declares none
unfoldable pub decl_group_of : World → ℕ → Option DeclGroup
decl_group_of w k = option_and_then (λ (d : Declared). decl_group_from w d.declared_by) (declared_at w k)

-- the kind of the declaration at token `k`; None if the token declares nothing
unfoldable pub decl_kind_of : World → ℕ → Option DeclKind
decl_kind_of w k = option_map (λ (c : DeclGroup). c.decl_kind) (decl_group_of w k)

-- the index of the outermost component of the type of the declaration group whose first token is `first`; None if it has no type
unfoldable pub type_index_from : World → ℕ → Option ℕ
type_index_from w first = position (λ (p : TypePart). p.declared_by == first) w.rows.parts

-- the index of the outermost component of the type of the identifier that token `k` declares; None if there is no type
unfoldable pub type_index_of : World → ℕ → Option ℕ
type_index_of w k = option_and_then (λ (d : Declared). type_index_from w d.declared_by) (declared_at w k)

-- the index of the import item whose alias token `k` declares; None if there is none
unfoldable pub item_of : World → ℕ → Option ℕ
item_of w k = position (λ (i : Import). i.alias == k) w.rows.imports

-- whether the declared identifier `d` is a field of the record whose RECORD keyword is at token `r`
abbrev pub is_of_record : World → ℕ → Declared → Bool
is_of_record w r d = option_eq nat_eq (option_and_then (λ (c : DeclGroup). c.of_record) (decl_group_from w d.declared_by)) (Some r)

-- the token of the field of this name in the record whose RECORD keyword is at token `r`; None if there is none
unfoldable pub field_at : World → ℕ → List ℕ → Option ℕ
field_at w r name = option_map (λ (d : Declared). d.number) (find (λ (d : Declared). is_of_record w r d && bytes_eq (text w d.number) name) w.rows.declared)

-- the entry of the record whose RECORD keyword is at token `r`; None if there is none
unfoldable pub record_at : World → ℕ → Option RecordRow
record_at w r = find (λ (row : RecordRow). row.number == r) w.rows.records

-- the token of the first identifier of the declaration whose type is this record, or an array or a pointer that leads to the record
unfoldable pub owner_at : World → ℕ → Option ℕ
owner_at w r = option_map (λ (row : RecordRow). row.owner) (record_at w r)

-- ---- the reached modules, by their indexes

-- the index, among the reached modules, of the module of this name; None if no reached module has this name
unfoldable pub module_number : World → List ℕ → Option ℕ
module_number w name = position (λ (m : ModuleInterface). bytes_eq m.name name) w.reached

-- the index, among the reached modules, of the module that the import item with this index names; None if that module isn't reached, or if
-- there is no such item
unfoldable pub module_of_item : World → ℕ → Option ℕ
module_of_item w item = option_and_then (λ (i : Import). module_number w (text w i.imported)) (slice_get w.rows.imports item)

-- the given index of a declaration, if the declaration is exported, and otherwise None
abbrev pub if_exported : ℕ → Declaration → Option ℕ
if_exported index d = if d.exported then Some index else None

-- the index of the exported declaration with this name in this record, or in the module's block if no record is given; None if there is
-- none
unfoldable pub exported_at : ModuleInterface → Option ℕ → List ℕ → Option ℕ
exported_at m of_record name = option_and_then (λ (d : ℕ). option_and_then (if_exported d) (declaration_at m d)) (index_of m of_record name)

-- the index of the exported declaration with this name in the block of the reached module `i`; None if there is none
unfoldable pub exported_index : World → ℕ → List ℕ → Option ℕ
exported_index w i name = option_and_then (λ (m : ModuleInterface). exported_at m None name) (slice_get w.reached i)

-- the declaration with the index `d` in the interface of the reached module `i`; None if there is none
unfoldable pub imported_declaration : World → ℕ → ℕ → Option Declaration
imported_declaration w i d = option_and_then (λ (m : ModuleInterface). declaration_at m d) (slice_get w.reached i)

-- the kind of declaration d of the reached module i
unfoldable pub imported_kind : World → ℕ → ℕ → Option DeclKind
imported_kind w i d = option_map (λ (it : Declaration). it.decl_kind) (imported_declaration w i d)

-- the component with the index `j` in the type expression of declaration `d` of the reached module `i`; None if there is none
unfoldable pub imported_part : World → ℕ → ℕ → ℕ → Option Part
imported_part w i d j = option_and_then (λ (m : ModuleInterface). type_part m d j) (slice_get w.reached i)

-- the base of the record whose RECORD keyword is at token `r` of the reached module `i`; None if it has no base
unfoldable pub imported_base : World → ℕ → ℕ → Option Base
imported_base w i r = option_and_then (λ (m : ModuleInterface). base_named m r) (slice_get w.reached i)

-- the index of the declaration of the reached module `i` whose type is the record `r`, or an array or a pointer that leads to the record
unfoldable pub imported_owner : World → ℕ → ℕ → Option ℕ
imported_owner w i r = option_and_then (λ (m : ModuleInterface). owner_index m r) (slice_get w.reached i)

-- the index of the declaration with this name in the block of the reached module `i`, exported or not; None if there is none
unfoldable pub named_declaration : World → ℕ → List ℕ → Option ℕ
named_declaration w i name = option_and_then (λ (m : ModuleInterface). index_of m None name) (slice_get w.reached i)

-- the name of the module that `alias` denotes in the source of the reached module `i`; None if that module has no such alias
unfoldable pub aliased_module_name : World → ℕ → List ℕ → Option (List ℕ)
aliased_module_name w i alias = option_and_then (λ (m : ModuleInterface). module_named m alias) (slice_get w.reached i)
