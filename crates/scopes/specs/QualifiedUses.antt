-- How many uses cross an import.
use Rattle.std.specs.Prelude.{◌≡◌, ℕ, suc, List, [], ◌∷◌, Contains}
use Rattle.std.specs.Option.{IsSome}
use Rattle.module_table.specs.declared.rows.Block.{Block}
use Rattle.module_table.specs.declared.rows.Import.{Import}
use Rattle.module_table.specs.declared.rows.Used.{Used}
use Rattle.module_table.specs.declared.rows.DeclKind.TheVariants as decl_kinds
use Rattle.module_table.specs.Parts.{Rows}
use Rattle.scopes.specs.declared.members.Member.{Member}
use Rattle.scopes.specs.Members.{members_of}
use Rattle.scopes.specs.Scope.{ResolvesTo}

-- exactly n elements of the list have the property
pub data Counts {X : Type 0} (P : X → Type 0) : List X → ℕ → Type 0 where
  none : Counts P [] 0
  one_more : {x : X} {xs : List X} {n : ℕ} → P x → Counts P xs n → Counts P (x ∷ xs) (suc n)
  other : {x : X} {xs : List X} {n : ℕ} → (P x → ⊥) → Counts P xs n → Counts P (x ∷ xs) n

-- a qualified name `head.member` whose head means the alias declared by this token
pub record IsQualifiedBy (name : ℕ → List ℕ) (blocks : List Block) (ds : List Member) (alias : ℕ) (u : Used) : Type 0 where
  pub qualified : IsSome u.member
  pub declared : Member
  pub means : ResolvesTo name blocks ds u declared
  pub is_alias : declared.number ≡ alias
  pub of_import : declared.decl_kind ≡ decl_kinds.Import

-- a qualified name whose head means an alias of the module named `imported`
pub record Crosses (name : ℕ → List ℕ) (rows : Rows) (imported : List ℕ) (u : Used) : Type 0 where
  pub item : Import
  pub is_item : Contains rows.imports item
  pub of : name item.imported ≡ imported
  pub qualified : IsQualifiedBy name rows.blocks (members_of rows) item.alias u

-- the alias declared by this token qualifies exactly n uses
abbrev pub HasUses : (ℕ → List ℕ) → Rows → ℕ → ℕ → Type 0
HasUses name rows alias n = Counts (IsQualifiedBy name rows.blocks (members_of rows) alias) rows.uses n

-- the weight of the import of a module: the number of uses that its aliases qualify
abbrev pub HasWeight : (ℕ → List ℕ) → Rows → List ℕ → ℕ → Type 0
HasWeight name rows imported n = Counts (Crosses name rows imported) rows.uses n
