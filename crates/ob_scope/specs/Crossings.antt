-- The uses that cross an import, by their tokens.
use Rattle.std.specs.Prelude.{◌≡◌, ℕ, List, [], ◌∷◌, Some, Contains}
use Rattle.ob_scan.specs.declared.token.Token.{Token}
use Rattle.module_table.specs.declared.rows.Used.{Used}
use Rattle.module_table.specs.declared.rows.DeclKind.TheVariants as decl_kinds
use Rattle.module_table.specs.Order.{AreRowsSorted}
use Rattle.module_table.specs.Parts.{Rows}
use Rattle.ob_scope.specs.declared.crossing_uses.Crossing.{Crossing}
use Rattle.scopes.specs.declared.members.Member.{Member}
use Rattle.scopes.specs.QualifiedUses.{Crosses}
use Rattle.scopes.specs.Members.{members_of}
use Rattle.scopes.specs.Scoped.{AreScopes, ModuleScopes}

-- the crossing has the indexes of the use's two tokens: its first name, and the name after the dot
pub record IsOfUse (u : Used) (c : Crossing) : Type 0 where
  pub first : c.first ≡ u.number
  pub last : u.member ≡ Some c.last

-- the crossings have exactly the tokens of those of the listed uses that cross to the module named `imported`, in order
pub data AreCrossings (name : ℕ → List ℕ) (rows : Rows) (imported : List ℕ) : List Used → List Crossing → Type 0 where
  no_use : AreCrossings name rows imported [] []
  crossing : {u : Used} {us : List Used} {c : Crossing} {cs : List Crossing} → Crosses name rows imported u → IsOfUse u c → AreCrossings name rows imported us cs → AreCrossings name rows imported (u ∷ us) (c ∷ cs)
  other_use : {u : Used} {us : List Used} {cs : List Crossing} → (Crosses name rows imported u → ⊥) → AreCrossings name rows imported us cs → AreCrossings name rows imported (u ∷ us) cs

-- ---- look-ups

-- the token with this index declares an import's alias
pub record IsImportAt (members : List Member) (number : ℕ) : Type 0 where
  pub member : Member
  pub is_member : Contains members member
  pub declared : member.number ≡ number
  pub an_import : member.decl_kind ≡ decl_kinds.Import

-- the scopes and the members are those of the module with these bytes, tokens and entries, and the entries are sorted
pub record AreScopesOf (bytes : List ℕ) (ts : List Token) (rows : Rows) (members : List Member) (s : ModuleScopes) : Type 0 where
  pub scopes : AreScopes bytes ts rows s
  pub ordered : AreRowsSorted rows
  pub declared : members ≡ members_of rows
