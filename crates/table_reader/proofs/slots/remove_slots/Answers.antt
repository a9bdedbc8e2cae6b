use Rattle.std.proofs.Common.{◌∙◌, ap, List}
use Rattle.module_table.specs.declared.rows.Selector.{Selector as SelectorRow}
use Rattle.module_table.specs.TableStages.{Stage, stage_of, builder_rows}
use Rattle.table_reader.specs.SelectorSlots.{removed}
use Rattle.table_reader.proofs.slots.remove_slots.Goals as goal

pub returns-clause-stage : goal.returns-clause-stage
unfolding removed stage_of
returns-clause-stage c = λ e. (
  e,
  ap (λ (zs : List SelectorRow). let s : Stage = record { number = c.args.builder.now.number; rows = record (builder_rows c.args.builder.now) { selectors = zs } } in s) (c.drop.ensures.items ∙ c.drain.ensures.kept),
)
