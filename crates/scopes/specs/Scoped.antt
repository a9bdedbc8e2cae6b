-- The scopes of a module, as a value.
use Rattle.std.specs.Prelude.{◌≡◌, ℕ, ◌<◌, ◌↔◌, List, length, slice_get, Some, Contains}
use Rattle.ob_scan.specs.declared.token.Token.{Token}
use Rattle.ob_scan.specs.Texts.{text_at}
use Rattle.module_table.specs.declared.rows.Import.{Import}
use Rattle.module_table.specs.declared.rows.Used.{Used}
use Rattle.module_table.specs.Parts.{Rows}
use Rattle.scopes.specs.declared.members.Member.{Member}
use Rattle.scopes.specs.Members.{members_of}
use Rattle.scopes.specs.Scope.{ResolvesTo, HasNoDuplicates}
use Rattle.scopes.specs.QualifiedUses.{HasUses}
use Rattle.scopes.specs.IdentifierNames.{AreNames}

-- the tokens of a use and of the declaration that it means
pub record Meaning : Type 0 where
  pub used : ℕ
  pub declared : ℕ

-- the token that declares an alias, the name of the module that it denotes, and the number of uses that it qualifies
pub record AliasUses : Type 0 where
  pub alias : ℕ
  pub imported : List ℕ
  pub uses : ℕ

-- the module's name, the meanings of its uses, and its aliases; both lists are sorted by token number
pub record ModuleScopes : Type 0 where
  pub name : List ℕ
  pub meanings : List Meaning
  pub aliases : List AliasUses

-- the use with the token `used` means the declaration with the token `declared`
pub record MeansBy (name : ℕ → List ℕ) (rows : Rows) (used declared : ℕ) : Type 0 where
  pub use_row : Used
  pub is_use : Contains rows.uses use_row
  pub of_use : use_row.number ≡ used
  pub named_declaration : Member
  pub means : ResolvesTo name rows.blocks (members_of rows) use_row named_declaration
  pub of_declared : named_declaration.number ≡ declared

-- the alias of an import item, with its module and its count of uses
pub record IsAlias (name : ℕ → List ℕ) (rows : Rows) (item : Import) (a : AliasUses) : Type 0 where
  pub alias : a.alias ≡ item.alias
  pub imported : a.imported ≡ name item.imported
  pub uses : HasUses name rows item.alias a.uses

-- the aliases of the import items, one for each
pub record AreAliases (name : ℕ → List ℕ) (rows : Rows) (aliases : List AliasUses) : Type 0 where
  pub as_many : length aliases ≡ length rows.imports
  pub each : (i : ℕ) (item : Import) (a : AliasUses) → slice_get rows.imports i ≡ Some item → slice_get aliases i ≡ Some a → IsAlias name rows item a

-- the scopes of the module with these bytes, tokens and entries; it has no duplicates, and its identifiers are names
pub record AreScopes (bytes : List ℕ) (ts : List Token) (rows : Rows) (s : ModuleScopes) : Type 0 where
  pub once : HasNoDuplicates (text_at bytes ts) (members_of rows)
  pub named : AreNames (text_at bytes ts) rows
  pub name : s.name ≡ text_at bytes ts 1
  pub meanings : (used declared : ℕ) → Contains s.meanings (record { used = used; declared = declared }) ↔ MeansBy (text_at bytes ts) rows used declared
  pub ordered : (i j : ℕ) (m n : Meaning) → i < j → slice_get s.meanings i ≡ Some m → slice_get s.meanings j ≡ Some n → m.used < n.used
  pub aliased : AreAliases (text_at bytes ts) rows s.aliases
  pub aliases_ordered : (i j : ℕ) (a b : AliasUses) → i < j → slice_get s.aliases i ≡ Some a → slice_get s.aliases j ≡ Some b → a.alias < b.alias
