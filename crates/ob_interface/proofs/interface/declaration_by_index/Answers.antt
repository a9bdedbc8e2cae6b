use Rattle.std.proofs.Common.{None, Some, ap, ◌∙◌}
use Rattle.ob_interface.proofs.LookedUp.{declaration_told_at}
use Rattle.ob_interface.proofs.interface.declaration_by_index.Goals as goal

pub returns-in_err-row : goal.returns-in_err-row
returns-in_err-row c = rw c.from_residual.ensures (declaration_told_at c.args.rows.now c.args.index None c.in_err-row.ensures)

pub returns : goal.returns
returns c = ap Some c.decode_declaration.ensures ∙ declaration_told_at c.args.rows.now c.args.index (Some c.in_ok-row.row.now) c.in_ok-row.ensures
