use Rattle.std.proofs.Common.{drop, length}
use Rattle.module_table.specs.Tables.{rows_in}
use Rattle.ob_targets.specs.Targets.{writes}
use Rattle.ob_resolve.proofs.WrittenNames.{AreWritten}
use Rattle.ob_resolve.proofs.written.set_written_flags.Given as goal

abbrev pub invariant-loop-designator : goal.invariant-loop-designator
invariant-loop-designator l = AreWritten (writes (rows_in l.table)) l.designators (length l.fn.written) (drop l.designator-index l.designators) l.written
