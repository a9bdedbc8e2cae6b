use Rattle.std.proofs.Common.{arith}
use Rattle.ob_tree.proofs.EndNames.{end_walks}
use Rattle.ob_tree.proofs.end_names.+end_names.Goals as goal

pub append_declaration_end_names-loop-procedure-init : goal.append_declaration_end_names-loop-procedure-init
append_declaration_end_names-loop-procedure-init t c = grind (arith, end_walks)

pub append_declaration_end_names-loop-procedure-preserved : goal.append_declaration_end_names-loop-procedure-preserved
append_declaration_end_names-loop-procedure-preserved t c = grind (arith, end_walks)

pub append_declaration_end_names-returns : goal.append_declaration_end_names-returns
append_declaration_end_names-returns t c = grind (arith, end_walks)

pub append_procedure_end_names-returns : goal.append_procedure_end_names-returns
append_procedure_end_names-returns t c = grind (arith, end_walks)
