-- Invariants of a pass that visits members and uses in token order.
use Rattle.std.specs.Prelude.{◌≡◌, ◌⊎◌, ℕ, ◌+◌, ◌<◌, ◌≤◌, List, slice_get, Some, Contains}
use Rattle.module_table.specs.declared.rows.Block.{Block as BlockRow}
use Rattle.module_table.specs.declared.rows.Used.{Used}
use Rattle.module_table.specs.Blocks.{Encloses}
use Rattle.scopes.specs.declared.members.Member.{Member}
use Rattle.scopes.specs.declared.members.Scope.TheVariants.{Block}
use Rattle.ob_scope.specs.declared.bindings.Bindings.{Bindings}
use Rattle.ob_scope.specs.Visibility.{IsInnermost}

-- the name at the token `number` occurs in this block: as a member that the block declares, or as a use
pub data IsNameIn (members : List Member) (uses : List Used) (number block : ℕ) : Type 0 where
  member : (m : Member) → Contains members m → m.place ≡ Block block → m.number ≡ number → IsNameIn members uses number block
  use_row : (u : Used) → Contains uses u → u.block ≡ block → u.number ≡ number → IsNameIn members uses number block

-- the names of each block are contiguous: those in it come after its first two tokens; each name between these and a name in the
-- block is in the block
pub record AreContiguous (blocks : List BlockRow) (members : List Member) (uses : List Used) : Type 0 where
  pub behind : (n b c : ℕ) → IsNameIn members uses n c → Encloses blocks b c → b + 1 < n
  pub between : (n m b c d : ℕ) → IsNameIn members uses n c → IsNameIn members uses m d → b + 1 < n → n ≤ m → Encloses blocks b d → Encloses blocks b c

-- each block that encloses this block is open, or begins after all blocks that have been opened so far
abbrev pub MayEnter : List BlockRow → List ℕ → ℕ → ℕ → Type 0
MayEnter blocks stack watermark block = (b : ℕ) → Encloses blocks b block → Contains stack b ⊎ (watermark ≤ b)

-- no block has been opened yet, or the last visited name is known: its block is the innermost open one, all opened blocks begin before the
-- name, and it is neither after this token nor after any member from index `next` on
pub data IsPassed (members : List Member) (uses : List Used) (stack : List ℕ) (watermark next token : ℕ) : Type 0 where
  none : watermark ≡ 0 → IsPassed members uses stack watermark next token
  last : (n c : ℕ) → IsNameIn members uses n c → IsInnermost stack c → watermark < n → n ≤ token → ((k : ℕ) (m : Member) → next ≤ k → slice_get members k ≡ Some m → n ≤ m.number) → IsPassed members uses stack watermark next token

-- the last visited name isn't after this token, and the names of each block are contiguous
pub record IsOnWalk (blocks : List BlockRow) (members : List Member) (uses : List Used) (s : Bindings) (token : ℕ) : Type 0 where
  pub together : AreContiguous blocks members uses
  pub passed : IsPassed members uses s.open.stack.items s.open.watermark s.next token
