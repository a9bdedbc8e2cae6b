-- The map from a block and the number of a name to the type that the block declares by this name.
use Rattle.std.specs.Prelude.{◌≡◌, ℕ, ◌<◌, nat_eq, List, Bool, ◌&&◌, Some, slice_get, slice_index}
use Rattle.std.specs.Option.{IsSome}
use Rattle.indexmap.specs.IndexMap.{get, IndexMap}
use Rattle.module_table.specs.declared.rows.DeclKind.TheVariants as decl_kinds
use Rattle.scopes.specs.declared.members.Member.{Member}
use Rattle.scopes.specs.declared.members.Scope.TheVariants.{Block}

-- a key of the map: a block, and the number of a name
abbrev pub TypeKey : Type 0
TypeKey = ℕ × ℕ

-- equality of keys
abbrev pub type_key_eq : TypeKey → TypeKey → Bool
type_key_eq a b = nat_eq a.0 b.0 && nat_eq a.1 b.1

-- the member with index k is a type, which the block of this key declares by the name of this key
pub record IsTypeAt (members : List Member) (numbers : List ℕ) (key : TypeKey) (k : ℕ) : Type 0 where
  pub member : Member
  pub there : slice_get members k ≡ Some member
  pub placed : member.place ≡ Block key.0
  pub number : slice_index numbers k ≡ key.1
  pub a_type : member.decl_kind ≡ decl_kinds.Type

-- each entry of the map is the index of a type, under its key; the map has the key of each type among the first `count` members
pub record AreTypes {S : Type 0} (members : List Member) (numbers : List ℕ) (count : ℕ) (types : IndexMap TypeKey ℕ S) : Type 0 where
  pub sound : (key : TypeKey) (k : ℕ) → get type_key_eq types key ≡ Some k → IsTypeAt members numbers key k
  pub all : (key : TypeKey) (k : ℕ) → k < count → IsTypeAt members numbers key k → IsSome (get type_key_eq types key)
