use Rattle.std.proofs.Common.{None, Some, ◌∙◌}
use Rattle.ob_interface.proofs.LookedUp.{base_told_at}
use Rattle.ob_interface.proofs.interface.find_base.Goals as goal

pub returns-in_err-index : goal.returns-in_err-index
returns-in_err-index c = rw c.from_residual.ensures (base_told_at c.args.rows.now c.args.«record» None c.in_err-index.ensures)

pub returns : goal.returns
returns c = c.base_by_index.ensures ∙ base_told_at c.args.rows.now c.args.«record» (Some c.in_ok-index.index) c.in_ok-index.ensures
