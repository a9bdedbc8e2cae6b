-- The state of resolution in token order: the open blocks, and the members that may be visible in them.
use Rattle.std.specs.Prelude.{◌≡◌, ◌⊎◌, ℕ, ◌+◌, ◌-◌, ◌<◌, ◌≤◌, List, length, slice_get, slice_index, slice_index_or, Option, Some, None, Contains}
use Rattle.std.specs.List.{position_or_len}
use Rattle.std.specs.Str.{bytes_eq}
use Rattle.module_table.specs.declared.rows.Block.{Block as BlockRow}
use Rattle.scopes.specs.declared.members.Member.{Member}
use Rattle.text_hash.specs.declared.name.Name.{Name}
use Rattle.scopes.specs.declared.members.Scope.{Scope}
use Rattle.scopes.specs.declared.members.Scope.TheVariants.{Block, Record}
use Rattle.module_table.specs.Blocks.{Encloses, IsDirectlyIn}

-- ---- interned names

-- the number of a name: the index of its first occurrence in the list of interned names, or the list's length if it doesn't occur
abbrev pub name_number : List Name → List ℕ → ℕ
name_number names text = position_or_len (λ y. bytes_eq text y.bytes.now) names

-- `numbers` has for each member the number of its name, and each of these names is interned
pub record AreInterned (name : ℕ → List ℕ) (members : List Member) (names : List Name) (numbers : List ℕ) : Type 0 where
  pub as_many : length numbers ≡ length members
  pub each : (k : ℕ) (m : Member) → slice_get members k ≡ Some m → slice_index numbers k ≡ name_number names (name m.number)
  pub within : (k : ℕ) (m : Member) → slice_get members k ≡ Some m → slice_index numbers k < length names

-- ---- blocks

-- the stack is empty, or it has a block and all blocks that enclose it, from the outermost to the innermost
pub record AreOpen (blocks : List BlockRow) (stack : List ℕ) : Type 0 where
  pub outermost : (b c : ℕ) → slice_get stack 0 ≡ Some b → IsDirectlyIn blocks b c → ⊥
  pub inside : (i b c : ℕ) → slice_get stack i ≡ Some b → slice_get stack (i + 1) ≡ Some c → IsDirectlyIn blocks c b

-- the stack is empty, or has a block and all blocks that enclose it; each block on it begins before the token `watermark`
pub record IsOpen (blocks : List BlockRow) (stack : List ℕ) (watermark : ℕ) : Type 0 where
  pub chain : AreOpen blocks stack
  pub begun : (b : ℕ) → Contains stack b → b < watermark

-- the block is the innermost open one, the last on the stack
abbrev pub IsInnermost : List ℕ → ℕ → Type 0
IsInnermost stack block = slice_get stack (length stack - 1) ≡ Some block

-- the effect of entering a block: it is the innermost open block; each open block was open before or is opened for the first time; if any
-- block was opened, the last one was the block itself
pub record Enters (blocks : List BlockRow) (block : ℕ) (old : List ℕ) (since : ℕ) (new : List ℕ) (watermark : ℕ) : Type 0 where
  pub scope_stack : IsOpen blocks new watermark
  pub innermost : IsInnermost new block
  pub kept : (b : ℕ) → Contains new b → Contains old b ⊎ (since ≤ b)
  pub later : since ≤ watermark
  pub last : (watermark ≡ since) ⊎ (watermark ≡ block + 1)

-- ---- members

-- the member with index k is declared in this block
pub record IsIn (members : List Member) (k block : ℕ) : Type 0 where
  pub member : Member
  pub there : slice_get members k ≡ Some member
  pub placed : member.place ≡ Block block

-- k is below j, and the member with index k is declared in a block by the name with number n
pub record IsNamedAt (members : List Member) (numbers : List ℕ) (j n k : ℕ) : Type 0 where
  pub below : k < j
  pub number : slice_index numbers k ≡ n
  pub block : ℕ
  pub inside : IsIn members k block

-- k is below j, and the member with index k is declared in an open block by the name with number n
pub record IsVisibleAt (members : List Member) (numbers stack : List ℕ) (j n k : ℕ) : Type 0 where
  pub named : IsNamedAt members numbers j n k
  pub is_open : Contains stack named.block

-- the optional index is present and at least k
abbrev pub IsLimit : Option ℕ → ℕ → Type 0
IsLimit at k = (s : ℕ) × (at ≡ Some s) × (k ≤ s)

-- `at` is a head of the list of candidates for the name with number n: a member with this name or None; no visible member with this name
-- has a larger index
pub record IsStart (members : List Member) (numbers stack : List ℕ) (j n : ℕ) (at : Option ℕ) : Type 0 where
  pub limit : (k : ℕ) → IsVisibleAt members numbers stack j n k → IsLimit at k
  pub some : (s : ℕ) → at ≡ Some s → IsNamedAt members numbers j n s

-- for the members before index j: their blocks have been opened; the block of a visible member encloses the blocks of all later members;
-- `latest` has the head of each name's candidates, and `earlier` links each member to the next older candidate for its name
pub record AreVisible (blocks : List BlockRow) (members : List Member) (numbers stack : List ℕ) (watermark j : ℕ) (latest earlier : List (Option ℕ)) : Type 0 where
  pub begun : (k b : ℕ) → k < j → IsIn members k b → b < watermark
  pub ordered : (k i b c : ℕ) → k < i → i < j → IsIn members k b → IsIn members i c → Contains stack b → Encloses blocks b c
  pub starts : (n : ℕ) → IsStart members numbers stack j n (slice_index_or latest n None)
  pub behind : (k i b c : ℕ) → k < i → i < j → slice_index numbers k ≡ slice_index numbers i → IsIn members k b → IsIn members i c → Encloses blocks b c → IsLimit (slice_index_or earlier i None) k
  pub older : (i h : ℕ) → slice_index_or earlier i None ≡ Some h → IsNamedAt members numbers i (slice_index numbers i) h

-- the scope is a block, and that block is open
abbrev pub IsOpenScope : List ℕ → Scope → Type 0
IsOpenScope stack (Block b) = Contains stack b
IsOpenScope stack (Record r) = ⊥
