use Rattle.module_table.proofs.table.Table.record.Goals as goal

pub returns-clause-none : goal.returns-clause-none
returns-clause-none c = rw c.as_slice.ensures.value at c.find_entry.ensures.none
