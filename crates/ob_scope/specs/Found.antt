-- Properties of the meanings and counts after the first k uses are resolved.
use Rattle.std.specs.Prelude.{◌≡◌, ℕ, ◌<◌, ◌≤◌, List, length, take, slice_get, slice_index, Some, Bool, true, false, ◌&&◌, if◌then◌else◌, Contains}
use Rattle.std.specs.Option.{is_some}
use Rattle.std.specs.Str.{IsUtf8}
use Rattle.std.specs.String.{string_bytes}
use Rattle.module_table.specs.declared.rows.Block.{Block}
use Rattle.module_table.specs.declared.rows.Import.{Import}
use Rattle.module_table.specs.declared.rows.Used.{Used}
use Rattle.module_table.specs.declared.rows.DeclKind.{DeclKind}
use Rattle.module_table.specs.declared.rows.DeclKind.TheVariants as decl_kinds
use Rattle.scopes.specs.declared.meaning.Resolution.{Resolution}
use Rattle.scopes.specs.declared.members.Member.{Member}
use Rattle.scopes.specs.declared.module_scopes.Alias.{Alias}
use Rattle.scopes.specs.Scope.{ResolvesTo}
use Rattle.scopes.specs.QualifiedUses.{Counts, IsQualifiedBy}
use Rattle.module_table.specs.Order.{IsIncreasingBy}

-- one of the first k uses is at the token `used`, and it means the declaration at the token `declared`
pub record MeansBefore (name : ℕ → List ℕ) (blocks : List Block) (members : List Member) (uses : List Used) (k used declared : ℕ) : Type 0 where
  pub place : ℕ
  pub below : place < k
  pub use_row : Used
  pub there : slice_get uses place ≡ Some use_row
  pub of_use : use_row.number ≡ used
  pub named_declaration : Member
  pub means : ResolvesTo name blocks members use_row named_declaration
  pub of_declared : named_declaration.number ≡ declared

-- the list has exactly the meanings of those of the first k uses that have one, in token order
pub record AreMeant (name : ℕ → List ℕ) (blocks : List Block) (members : List Member) (uses : List Used) (k : ℕ) (rows : List Resolution) : Type 0 where
  pub sound : (i : ℕ) (row : Resolution) → slice_get rows i ≡ Some row → MeansBefore name blocks members uses k row.used row.declared
  pub all : (used declared : ℕ) → MeansBefore name blocks members uses k used declared → (i : ℕ) × (slice_get rows i ≡ Some (record { used = used; declared = declared }))
  pub ordered : IsIncreasingBy (λ (m : Resolution). m.used) rows

-- the list has for each member how many of the first k uses it qualifies as an import; no count is above k
pub record AreCounted (name : ℕ → List ℕ) (blocks : List Block) (members : List Member) (uses : List Used) (k : ℕ) (counts : List ℕ) : Type 0 where
  pub as_many : length counts ≡ length members
  pub small : (i : ℕ) → slice_index counts i ≤ k
  pub each : (i : ℕ) (m : Member) → slice_get members i ≡ Some m → Counts (IsQualifiedBy name blocks members m.number) (take k uses) (slice_index counts i)

-- whether a declaration of this kind declares an import's alias
abbrev pub is_import : DeclKind → Bool
is_import decl_kinds.Import = true
is_import decl_kinds.Constant = false
is_import decl_kinds.Type = false
is_import decl_kinds.Variable = false
is_import decl_kinds.Procedure = false
is_import decl_kinds.Parameter = false
is_import decl_kinds.Field = false

-- how much the use adds to the count of the member that it means: 1 if the use is qualified and the member is an import, otherwise 0
abbrev pub counted_for : Member → Used → ℕ
counted_for m u = if is_some u.member && is_import m.decl_kind then 1 else 0

-- the names that are read from the source are valid UTF-8
pub record AreTexts (name : ℕ → List ℕ) (members : List Member) (imports : List Import) : Type 0 where
  pub first : IsUtf8 (name 1)
  pub declared : (d : Member) → Contains members d → IsUtf8 (name d.number)
  pub imported : (i : Import) → Contains imports i → IsUtf8 (name i.imported)

-- n is the count of the member that the token `alias` declares, or 0 if the token declares no member
pub record IsCountOf (members : List Member) (counts : List ℕ) (alias n : ℕ) : Type 0 where
  pub declared : (i : ℕ) (m : Member) → slice_get members i ≡ Some m → m.number ≡ alias → n ≡ slice_index counts i
  pub undeclared : ((i : ℕ) (m : Member) → slice_get members i ≡ Some m → m.number ≡ alias → ⊥) → n ≡ 0

-- the alias is that of this import item: its token, the imported module's name, and the number of uses that it qualifies
pub record IsAliasOf (name : ℕ → List ℕ) (members : List Member) (counts : List ℕ) (item : Import) (a : Alias) : Type 0 where
  pub alias : a.decl ≡ item.alias
  pub imported : IsUtf8 (name item.imported) → string_bytes a.«module» ≡ name item.imported
  pub uses : IsCountOf members counts item.alias a.uses

-- the list has the alias of each of the first k import items, in order
pub record AreAliasesOf (name : ℕ → List ℕ) (members : List Member) (counts : List ℕ) (imports : List Import) (k : ℕ) (aliases : List Alias) : Type 0 where
  pub as_many : length aliases ≡ k
  pub each : (i : ℕ) (item : Import) (a : Alias) → slice_get imports i ≡ Some item → slice_get aliases i ≡ Some a → IsAliasOf name members counts item a
