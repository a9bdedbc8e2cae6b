-- What holds for the entries of a syntax tree besides their order (Oberon-07 report, sections 4 and 11).
use Rattle.std.specs.Prelude.{ℕ, ◌≤◌, Contains, length}
use Rattle.module_table.specs.declared.rows.Declared.{Declared}
use Rattle.module_table.specs.declared.rows.Import.{Import}
use Rattle.module_table.specs.Blocks.{AreBlocksContiguous}
use Rattle.module_table.specs.Parts.{Rows}
use Rattle.module_table.specs.Tables.{module_name_token}

-- The entries of a tree with this number of tokens, given which tokens are identifiers: the module's name, all declared names and the
-- names of imported modules are identifiers; there are at most as many uses as tokens; and the names of each block are contiguous.
pub record AreTreeRows (is_identifier : ℕ → Type 0) (tokens : ℕ) (r : Rows) : Type 0 where
  pub own : is_identifier module_name_token
  pub declared : (d : Declared) → Contains r.declared d → is_identifier d.number
  pub imported : (i : Import) → Contains r.imports i → is_identifier i.imported
  pub few : length r.uses ≤ tokens
  pub blocks : AreBlocksContiguous r
