-- The scope rule (Oberon-07 report, section 4).
use Rattle.std.specs.Prelude.{◌≡◌, ℕ, ◌<◌, List, slice_get, Some, IsTrue, Contains}
use Rattle.module_table.specs.declared.rows.Block.{Block as BlockRow}
use Rattle.module_table.specs.declared.rows.Used.{Used}
use Rattle.module_table.specs.Blocks.{Encloses}
use Rattle.module_table.specs.declared.rows.DeclKind.TheVariants as decl_kinds
use Rattle.scopes.specs.declared.members.Member.{Member}
use Rattle.scopes.specs.declared.members.Scope.TheVariants.{Block}

-- Below, `name` maps a token number to the text of that token.

-- a declaration that is visible at a use: it has the use's name, begins before it, and its block encloses the use
pub record IsVisible (name : ℕ → List ℕ) (blocks : List BlockRow) (ds : List Member) (u : Used) (block : ℕ) (d : Member) : Type 0 where
  pub declared : Contains ds d
  pub placed : d.place ≡ Block block
  pub named : name d.number ≡ name u.number
  pub before : d.number < u.number
  pub around : Encloses blocks block u.block

-- a use resolves to the visible declaration in the innermost block, the one that all blocks of visible declarations enclose
pub record Resolves (name : ℕ → List ℕ) (blocks : List BlockRow) (ds : List Member) (u : Used) (d : Member) : Type 0 where
  pub block : ℕ
  pub seen : IsVisible name blocks ds u block d
  pub innermost : (b : ℕ) (e : Member) → IsVisible name blocks ds u b e → Encloses blocks b block

-- no declaration is visible at the use
abbrev pub ResolvesToNothing : (ℕ → List ℕ) → List BlockRow → List Member → Used → Type 0
ResolvesToNothing name blocks ds u = (b : ℕ) (d : Member) → IsVisible name blocks ds u b d → ⊥

-- a type with the use's name, declared after the use in the block of the use
pub record IsLaterType (name : ℕ → List ℕ) (ds : List Member) (u : Used) (d : Member) : Type 0 where
  pub declared : Contains ds d
  pub placed : d.place ≡ Block u.block
  pub named : name d.number ≡ name u.number
  pub after : u.number < d.number
  pub a_type : d.decl_kind ≡ decl_kinds.Type

-- the meaning of a use: what it resolves to, or, for a pointer's target that resolves to nothing, the later type
pub data ResolvesTo (name : ℕ → List ℕ) (blocks : List BlockRow) (ds : List Member) (u : Used) : Member → Type 0 where
  by_scope : {d : Member} → Resolves name blocks ds u d → ResolvesTo name blocks ds u d
  as_target : {d : Member} → IsTrue u.is_target → ResolvesToNothing name blocks ds u → IsLaterType name ds u d → ResolvesTo name blocks ds u d

-- duplicates: two declarations with equal names in one scope
abbrev pub AreDuplicates : (ℕ → List ℕ) → Member → Member → Type 0
AreDuplicates name d e = (d.place ≡ e.place) × (name d.number ≡ name e.number)

-- the first duplicates: among all pairs, the one whose second declaration comes first
pub record IsFirstDuplicate (name : ℕ → List ℕ) (ds : List Member) (d e : Member) : Type 0 where
  pub first : ℕ
  pub second : ℕ
  pub order : first < second
  pub at_first : slice_get ds first ≡ Some d
  pub at_second : slice_get ds second ≡ Some e
  pub twice : AreDuplicates name d e
  pub none_before : (i j : ℕ) (f g : Member) → i < j → j < second → slice_get ds i ≡ Some f → slice_get ds j ≡ Some g → AreDuplicates name f g → ⊥

-- no two declarations are duplicates
abbrev pub HasNoDuplicates : (ℕ → List ℕ) → List Member → Type 0
HasNoDuplicates name ds = (i j : ℕ) (f g : Member) → i < j → slice_get ds i ≡ Some f → slice_get ds j ≡ Some g → AreDuplicates name f g → ⊥
