use Rattle.std.proofs.Common.{None, Some, ◌∙◌}
use Rattle.ob_interface.proofs.LookedUp.{module_told}
use Rattle.ob_interface.proofs.interface.module_name_by_alias.Goals as goal

pub returns-in_err-index : goal.returns-in_err-index
returns-in_err-index c = rw c.from_residual.ensures (module_told c.args.rows.now c.args.alias.now None c.in_err-index.ensures)

pub returns : goal.returns
returns c = c.imported_module_name.ensures ∙ module_told c.args.rows.now c.args.alias.now (Some c.in_ok-index.index) c.in_ok-index.ensures
