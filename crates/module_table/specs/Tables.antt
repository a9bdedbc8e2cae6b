-- The content of a table (Oberon-07 report, sections 4 to 11).
use Rattle.std.specs.Prelude.{ℕ}
use Rattle.module_table.specs.declared.table.Table.{Table}
use Rattle.module_table.specs.Parts.{Rows}

-- the lists of a table
abbrev pub rows_in : Table → Rows
rows_in t = record {
  decl_groups = t.decl_groups.items;
  declared = t.declared.items;
  uses = t.uses.items;
  blocks = t.blocks.items;
  imports = t.imports.items;
  parts = t.parts.items;
  records = t.records.items;
  designators = t.designators.items;
  selectors = t.selectors.items;
  ends = t.ends.items;
}

-- the token number of the module's own name, which follows MODULE
abbrev pub module_name_token : ℕ
module_name_token = 1
