-- The invariant of the bindings while the uses are resolved in token order.
use Rattle.std.specs.Prelude.{◌≡◌, ℕ, ◌<◌, ◌≤◌, List, length, slice_get, Some}
use Rattle.module_table.specs.declared.rows.Block.{Block as BlockRow}
use Rattle.scopes.specs.declared.members.Member.{Member}
use Rattle.ob_scope.specs.declared.bindings.Bindings.{Bindings}
use Rattle.ob_scope.specs.Visibility.{AreVisible, IsOpen}

-- the invariant of the bindings: they cover exactly the first `next` members, in the open blocks, with `names` as the number of names
pub record AreBindings (blocks : List BlockRow) (members : List Member) (numbers : List ℕ) (names : ℕ) (s : Bindings) : Type 0 where
  pub named : length s.latest.items ≡ names
  pub as_many : length s.earlier.items ≡ length members
  pub few : s.next ≤ length members
  pub scope_stack : IsOpen blocks s.open.stack.items s.open.watermark
  pub seen : AreVisible blocks members numbers s.open.stack.items s.open.watermark s.next s.latest.items s.earlier.items

-- exactly the members with an index below `next` come before the token
pub record IsPrefixBefore (members : List Member) (next token : ℕ) : Type 0 where
  pub before : (k : ℕ) (m : Member) → k < next → slice_get members k ≡ Some m → m.number < token
  pub behind : (k : ℕ) (m : Member) → next ≤ k → slice_get members k ≡ Some m → token ≤ m.number
