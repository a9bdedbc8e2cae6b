-- The entry that is found from the hint is the one that a search finds.
use Rattle.std.proofs.Common.{List, sym, ap, subst, ◌∙◌}
use Rattle.std.specs.Prelude.{◌==◌, find}
use Rattle.module_table.specs.declared.rows.DeclGroup.{DeclGroup}
use Rattle.module_table.specs.Order.{IsIncreasingBy}
use Rattle.ob_emit.proofs.Numbered.{find_answer}
use Rattle.ob_emit.proofs.hinted_lookup.decl_group_by_hint.Goals as goal

pub returns : goal.returns
returns c =
    let up = subst (λ (rows : List DeclGroup). IsIncreasingBy (λ (row : DeclGroup). row.first) rows) (sym c.decl_groups.ensures) c.invariants.ensures.decl_groups in
    c.copied.ensures
    ∙ find_answer (λ (row : DeclGroup). row.first) c.decl_groups.result.now c.args.first c.row_by_hint.result up c.row_by_hint.ensures.found c.row_by_hint.ensures.number c.row_by_hint.ensures.none
    ∙ ap (find (λ (row : DeclGroup). row.first == c.args.first)) c.decl_groups.ensures
