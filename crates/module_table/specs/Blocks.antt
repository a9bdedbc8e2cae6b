-- Blocks, their nesting, and the names in them (Oberon-07 report, section 4).
use Rattle.std.specs.Prelude.{◌≡◌, ℕ, ◌+◌, ◌<◌, ◌≤◌, List, None, Contains}
use Rattle.module_table.specs.declared.rows.Block.{Block}
use Rattle.module_table.specs.declared.rows.Declared.{Declared}
use Rattle.module_table.specs.declared.rows.DeclGroup.{DeclGroup}
use Rattle.module_table.specs.declared.rows.Used.{Used}
use Rattle.module_table.specs.Parts.{Rows}

-- A block is identified by the number of its first token, the module's block by 0.

-- a block is directly nested in another one, which begins before it
pub record IsDirectlyIn (blocks : List Block) (b around : ℕ) : Type 0 where
  pub row : Block
  pub is_row : Contains blocks row
  pub first : row.first ≡ b
  pub outer : row.outer ≡ around
  pub behind : around < b

-- block `outer` encloses the other block, directly or indirectly, or is that block
pub data Encloses (blocks : List Block) (outer : ℕ) : ℕ → Type 0 where
  itself : {b : ℕ} → outer ≡ b → Encloses blocks outer b
  further : {b : ℕ} (c : ℕ) → IsDirectlyIn blocks b c → Encloses blocks outer c → Encloses blocks outer b

-- a name with this token number occurs in this block: the scope rule looks it up there, or a declaration group of that block declares it
pub data OccursIn (r : Rows) (number block : ℕ) : Type 0 where
  used : (u : Used) → Contains r.uses u → u.number ≡ number → u.block ≡ block → OccursIn r number block
  declared : (d : Declared) (by : DeclGroup) → Contains r.declared d → Contains r.decl_groups by → by.first ≡ d.declared_by → by.of_record ≡ None → d.number ≡ number → by.block ≡ block → OccursIn r number block

-- the names in a block and in the blocks nested in it are contiguous: they come after the first two tokens of the block, and each name
-- between these two tokens and one of them is also in the block or in a nested one
pub record AreBlocksContiguous (r : Rows) : Type 0 where
  pub behind : (n b c : ℕ) → OccursIn r n c → Encloses r.blocks b c → b + 1 < n
  pub between : (n m b c d : ℕ) → OccursIn r n c → OccursIn r m d → b + 1 < n → n ≤ m → Encloses r.blocks b d → Encloses r.blocks b c
