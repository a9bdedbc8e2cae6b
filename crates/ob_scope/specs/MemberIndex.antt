-- An index of the members by scope and name, which finds duplicates.
use Rattle.std.specs.Prelude.{◌≡◌, ℕ, List, map, slice_get, Some}
use Rattle.scopes.specs.declared.members.Scope.{Scope}
use Rattle.scopes.specs.declared.members.Member.{Member}
use Rattle.ob_scope.specs.declared.member_index.MemberKey.{MemberKey}
use Rattle.ob_scope.specs.declared.member_index.IndexFault.{IndexFault}
use Rattle.ob_scope.specs.declared.member_index.IndexFault.TheVariants as faults
use Rattle.scopes.specs.Scope.{IsFirstDuplicate, HasNoDuplicates}

-- a scope and a name in it
pub record ScopedName : Type 0 where
  pub place : Scope
  pub name : List ℕ

-- the scope and name of a member
abbrev pub scoped_name_of : (ℕ → List ℕ) → Member → ScopedName
scoped_name_of name m = record { place = m.place; name = name m.number }

-- the scope and name in a key of the member index
abbrev pub scoped_name_in : MemberKey → ScopedName
scoped_name_in k = record { place = k.place; name = k.name.bytes.now }

-- the keys are the scopes and names of the members, in the members' order, and no two members are duplicates
pub record IsIndex (name : ℕ → List ℕ) (members : List Member) (keys : List MemberKey) : Type 0 where
  pub entries : map scoped_name_in keys ≡ map (scoped_name_of name) members
  pub once : HasNoDuplicates name members

-- the members with these two indexes are the first duplicates
pub record AreFirstDuplicates (name : ℕ → List ℕ) (members : List Member) (f s : ℕ) : Type 0 where
  pub first : Member
  pub second : Member
  pub at_first : slice_get members f ≡ Some first
  pub at_second : slice_get members s ≡ Some second
  pub twice : IsFirstDuplicate name members first second

-- the error is `Twice` with the indexes of the first duplicates, or it is `Memory`
abbrev pub IsIndexFault : (ℕ → List ℕ) → List Member → IndexFault → Type 0
IsIndexFault name members (faults.Twice f s) = AreFirstDuplicates name members f s
IsIndexFault name members faults.Memory = Unit {0}

-- no key has this scope and name
abbrev pub HasNoKey : List MemberKey → Scope → List ℕ → Type 0
HasNoKey keys place name = (i : ℕ) (k : MemberKey) → slice_get keys i ≡ Some k → scoped_name_in k ≡ record { place = place; name = name } → ⊥
