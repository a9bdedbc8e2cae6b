-- The member that a use means, given by its index in the list of members.
use Rattle.std.specs.Prelude.{◌≡◌, ℕ, ◌<◌, List, slice_get, Some, None, false}
use Rattle.module_table.specs.declared.rows.Block.{Block as BlockRow}
use Rattle.module_table.specs.declared.rows.Used.{Used}
use Rattle.module_table.specs.declared.rows.DeclKind.TheVariants as decl_kinds
use Rattle.scopes.specs.declared.members.Member.{Member}
use Rattle.scopes.specs.declared.members.Scope.TheVariants.{Block}
use Rattle.scopes.specs.Scope.{ResolvesTo, Resolves}

-- Below, `name` maps a token number to the text of that token.

-- the pair is an index and its member; the member is declared in this block, and its name equals the text of the token `number`
pub record IsNamedIn (name : ℕ → List ℕ) (members : List Member) (block number : ℕ) (r : ℕ × Member) : Type 0 where
  pub there : slice_get members r.0 ≡ Some r.1
  pub placed : r.1.place ≡ Block block
  pub named : name r.1.number ≡ name number

-- i is the index of a type that this block declares after the token `number`, by the token's text as its name
pub record IsTypeAfter (name : ℕ → List ℕ) (members : List Member) (block number i : ℕ) : Type 0 where
  pub member : Member
  pub here : IsNamedIn name members block number (i, member)
  pub after : number < member.number
  pub a_type : member.decl_kind ≡ decl_kinds.Type

-- a use of an unqualified name at this token in this block, which isn't a pointer's target
abbrev pub use_in : ℕ → ℕ → Used
use_in block number = record { number = number; block = block; is_target = false; member = None }

-- i is the index of the member to which a use at the token `number` in this block resolves
pub record IsResolved (name : ℕ → List ℕ) (blocks : List BlockRow) (members : List Member) (block number i : ℕ) : Type 0 where
  pub member : Member
  pub there : slice_get members i ≡ Some member
  pub resolves : Resolves name blocks members (use_in block number) member

-- i is the index of the member that the use means
pub record IsMeant (name : ℕ → List ℕ) (blocks : List BlockRow) (members : List Member) (u : Used) (i : ℕ) : Type 0 where
  pub member : Member
  pub there : slice_get members i ≡ Some member
  pub means : ResolvesTo name blocks members u member

-- a use means no member
abbrev pub MeansNothing : (ℕ → List ℕ) → List BlockRow → List Member → Used → Type 0
MeansNothing name blocks members u = (d : Member) → ResolvesTo name blocks members u d → ⊥
