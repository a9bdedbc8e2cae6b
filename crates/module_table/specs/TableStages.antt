-- The stages of building a table.
use Rattle.std.specs.Prelude.{◌≡◌, ℕ, ◌+◌, ◌-◌, false}
use Rattle.std.specs.Prelude.{set}
use Rattle.module_table.specs.declared.rows.DeclGroup.{DeclGroup}
use Rattle.module_table.specs.declared.rows.Selector.{Selector}
use Rattle.module_table.specs.declared.builder.Context.{Context}
use Rattle.module_table.specs.declared.builder.TableBuilder.{TableBuilder}
use Rattle.module_table.specs.Parts.{Rows, Fragment, joined, no_rows}

-- the number of the next token, and the entries so far
pub record Stage : Type 0 where
  pub number : ℕ
  pub rows : Rows

-- the entries of a builder
abbrev pub builder_rows : TableBuilder → Rows
builder_rows d = record {
  decl_groups = d.decl_groups.items;
  declared = d.declared.items;
  uses = d.uses.items;
  blocks = d.blocks.items;
  imports = d.imports.items;
  parts = d.parts.items;
  records = d.records.items;
  designators = d.designators.items;
  selectors = d.selectors.items;
  ends = d.ends.items;
}

-- the stage of a builder
unfoldable pub stage_of : TableBuilder → Stage
stage_of d = record { number = d.number; rows = builder_rows d }

-- if no allocation has failed in the new state, none had in the old one, and the step leads from the old stage to the new stage
abbrev pub PerformsStep : (Stage → Stage) → TableBuilder → TableBuilder → Type 0
PerformsStep step old new = new.failed ≡ false → (old.failed ≡ false) × (stage_of new ≡ step (stage_of old))

-- the stage before the first token
abbrev pub start : Stage
start = record { number = 0; rows = no_rows }

-- the stage after a fragment of the tree: its tokens are consumed, its entries appended
unfoldable pub after : Fragment → Context → Stage → Stage
after p c s = record { number = s.number + p.width; rows = joined s.rows (p.rows c s.number) }

-- the stage after one more token that adds no entry
unfoldable pub advanced : Stage → Stage
advanced s = record { number = s.number + 1; rows = s.rows }

-- the stage with these entries appended and no token consumed
unfoldable pub added : Rows → Stage → Stage
added r s = record { number = s.number; rows = joined s.rows r }

-- the stage after the declaration group at this index got the entry `row`, with the token before the next one as its last token
unfoldable pub closed : ℕ → DeclGroup → Stage → Stage
closed at row s = record {
  number = s.number;
  rows = record (s.rows) { decl_groups = set s.rows.decl_groups at (record row { last = s.number - 1 }) };
}

-- the stage with the selector at this index replaced
unfoldable pub with_selector : ℕ → Selector → Stage → Stage
with_selector at row s = record {
  number = s.number;
  rows = record (s.rows) { selectors = set s.rows.selectors at row };
}
