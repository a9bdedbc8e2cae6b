-- The members of a module: its declared identifiers, each with its scope (Oberon-07 report, sections 4 and 11).
use Rattle.std.specs.Prelude.{ℕ, ◌==◌, List, [], ◌∷◌, Option, Some, None, if◌then◌else◌}
use Rattle.std.specs.List.{filter_map}
use Rattle.module_table.specs.declared.rows.DeclGroup.{DeclGroup}
use Rattle.module_table.specs.declared.rows.Declared.{Declared}
use Rattle.module_table.specs.Parts.{Rows}
use Rattle.scopes.specs.declared.members.Member.{Member}
use Rattle.scopes.specs.declared.members.Scope.{Scope}
use Rattle.scopes.specs.declared.members.Scope.TheVariants.{Block, Record}

-- the scope of a declaration group: the record of fields, the enclosing block of anything else
abbrev pub group_scope : DeclGroup → Scope
group_scope by = place by.of_record
  where
    place : Option ℕ → Scope
    place None = Block by.block
    place (Some r) = Record r

-- the declaration group that begins with this token
abbrev pub decl_group_at : List DeclGroup → ℕ → Option DeclGroup
decl_group_at [] k = None
decl_group_at (by ∷ rest) k = if by.first == k then Some by else decl_group_at rest k

-- a declared identifier with the scope and kind of its group
abbrev pub declared_member : Declared → Option DeclGroup → Option Member
declared_member d None = None
declared_member d (Some by) = Some (record { place = group_scope by; number = d.number; decl_kind = by.decl_kind })

-- the members of these groups, in the order of the identifiers
abbrev pub declared_members : List DeclGroup → List Declared → List Member
declared_members constructs ds = filter_map (λ d. declared_member d (decl_group_at constructs d.declared_by)) ds

-- the declared identifiers of a module, each with its scope and kind, in the order of the identifiers
abbrev pub members_of : Rows → List Member
members_of rows = declared_members rows.decl_groups rows.declared
