-- The lists of an interface are at most as long as those of its table.
use Rattle.module_table.specs.Tables.{rows_in}
use Rattle.ob_interface.proofs.Counting.{few_seen}
use Rattle.ob_interface.proofs.export_rows.read_interface.Goals as goal

pub invariant_of-result : goal.invariant_of-result
invariant_of-result c = few_seen c.in_ok-rows.rows c.args.bytes.now c.args.tokens.now (rows_in c.args.table.now) c.in_ok-rows.ensures c.rows_are_bounded.ensures
