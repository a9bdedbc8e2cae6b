-- The declaration group of the identifier that was found.
use Rattle.std.proofs.Common.{◌∙◌}
use Rattle.module_table.specs.Tables.{rows_in}
use Rattle.ob_emit.proofs.Declarers.{declarer_none, declarer_some}
use Rattle.ob_emit.proofs.hinted_lookup.decl_group_by_hints.Goals as goal

pub returns-in_err-declared : goal.returns-in_err-declared
returns-in_err-declared c =
    c.from_residual.ensures ∙ declarer_none c.args.view.now (rows_in c.table.result.now) c.args.number c.declared_by_hint.result c.table.ensures c.declared_by_hint.ensures c.in_err-declared.was

pub returns : goal.returns
returns c =
    declarer_some c.args.view.now (rows_in c.table.result.now) (rows_in c.table-2.result.now) c.args.number c.in_ok-declared.declared c.declared_by_hint.result c.decl_group_by_hint.result
    c.table.ensures c.declared_by_hint.ensures c.in_ok-declared.was c.table-2.ensures c.decl_group_by_hint.ensures
