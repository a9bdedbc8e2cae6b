-- The entry that the table's look-up finds.
use Rattle.std.proofs.Common.{◌∙◌}
use Rattle.module_table.specs.declared.rows.DeclGroup.{DeclGroup}
use Rattle.ob_emit.proofs.Numbered.{find_answer}
use Rattle.ob_emit.proofs.own_declarations.decl_group_from.Goals as goal

pub returns : goal.returns
returns c =
    c.copied.ensures ∙ find_answer (λ (by : DeclGroup). by.first) c.args.table.now.decl_groups.items c.args.first c.decl_group.result c.invariants.ensures.decl_groups
    c.decl_group.ensures.found c.decl_group.ensures.number c.decl_group.ensures.none
