use Rattle.std.proofs.Common.{sym, subst}
use Rattle.module_table.specs.Order.{AreRowsSorted}
use Rattle.table_rules.proofs.LinedModules.{rows_in_order}
use Rattle.table_rules.proofs.build.finish_table.Goals as goal

pub into_table-requires : goal.into_table-requires
into_table-requires c = subst AreRowsSorted (sym c.requires.1) (rows_in_order c.requires.0)
