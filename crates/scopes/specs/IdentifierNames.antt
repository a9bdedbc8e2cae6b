-- The identifiers of a module are spelled as names.
use Rattle.std.specs.Prelude.{◌≡◌, ℕ, List, Some, true, Contains, map, slice_get}
use Rattle.ob_scan.specs.declared.kind.Kind.TheVariants as kinds
use Rattle.ob_scan.specs.declared.token.Token.{Token}
use Rattle.ob_scan.specs.Tokens.{is_name}
use Rattle.module_table.specs.declared.rows.Import.{Import}
use Rattle.module_table.specs.Parts.{Rows}
use Rattle.scopes.specs.declared.members.Member.{Member}
use Rattle.scopes.specs.Members.{members_of}

-- the module's name, all declared identifiers and the names of imported modules are valid names
pub record AreNames (name : ℕ → List ℕ) (rows : Rows) : Type 0 where
  pub own : is_name (name 1) ≡ true
  pub members : (d : Member) → Contains (members_of rows) d → is_name (name d.number) ≡ true
  pub imports : (i : Import) → Contains rows.imports i → is_name (name i.imported) ≡ true

-- the token is an identifier
abbrev pub IsIdentifier : List Token → ℕ → Type 0
IsIdentifier ts k = slice_get (map (λ (t : Token). t.kind) ts) k ≡ Some kinds.Ident
