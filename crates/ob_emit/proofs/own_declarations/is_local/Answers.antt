-- The declaration group that was found.
use Rattle.module_table.specs.Tables.{rows_in}
use Rattle.ob_emit.proofs.Declarers.{local_none, local_some}
use Rattle.ob_emit.proofs.own_declarations.is_local.Goals as goal

pub returns-in-Some : goal.returns-in-Some
returns-in-Some c = local_some c.args.view.now (rows_in c.table.result.now) c.args.declared.now c.in-Some.by c.decl_group_by_hint.result c.table.ensures c.decl_group_by_hint.ensures c.in-Some.is

pub returns-in-None : goal.returns-in-None
returns-in-None c = local_none c.args.view.now (rows_in c.table.result.now) c.args.declared.now c.decl_group_by_hint.result c.table.ensures c.decl_group_by_hint.ensures c.in-None.is
