use Rattle.std.proofs.Common.{arith}
use Rattle.module_table.specs.Tables.{rows_in}
use Rattle.ob_resolve.proofs.Laid.{all_laid, own_laid, own_left}
use Rattle.ob_resolve.proofs.syntax_positions.set_all_positions.Goals as goal

pub returns-then-positions-gt1 : goal.returns-then-positions-gt1
returns-then-positions-gt1 c = own_laid (rows_in c.args.table.now) _ _ (omega arith) (all_laid (rows_in c.args.table.now) _ _ _ _ _ _ _ _
    (rw c.uses.ensures at c.set_positions.ensures) (rw c.selectors.ensures at c.set_positions-2.ensures) (rw c.uses-2.ensures at c.set_positions-3.ensures) (rw c.ends.ensures at c.set_positions-4.ensures)
    (rw c.declared.ensures at c.set_positions-5.ensures) (rw c.imports.ensures at c.set_positions-6.ensures) (rw c.imports-2.ensures at c.set_positions-7.ensures))

pub returns-else-positions-gt1 : goal.returns-else-positions-gt1
returns-else-positions-gt1 c = own_left (rows_in c.args.table.now) _ _ (omega arith) (all_laid (rows_in c.args.table.now) _ _ _ _ _ _ _ _
    (rw c.uses.ensures at c.set_positions.ensures) (rw c.selectors.ensures at c.set_positions-2.ensures) (rw c.uses-2.ensures at c.set_positions-3.ensures) (rw c.ends.ensures at c.set_positions-4.ensures)
    (rw c.declared.ensures at c.set_positions-5.ensures) (rw c.imports.ensures at c.set_positions-6.ensures) (rw c.imports-2.ensures at c.set_positions-7.ensures))
