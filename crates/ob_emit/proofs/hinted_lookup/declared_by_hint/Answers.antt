-- The entry that is found from the hint is the one that a search finds.
use Rattle.std.proofs.Common.{List, sym, ap, subst, ◌∙◌}
use Rattle.std.specs.Prelude.{◌==◌, find}
use Rattle.module_table.specs.declared.rows.Declared.{Declared}
use Rattle.module_table.specs.Order.{IsIncreasingBy}
use Rattle.ob_emit.proofs.Numbered.{find_answer}
use Rattle.ob_emit.proofs.hinted_lookup.declared_by_hint.Goals as goal

pub returns : goal.returns
returns c =
    let up = subst (λ (rows : List Declared). IsIncreasingBy (λ (row : Declared). row.number) rows) (sym c.declared.ensures) c.invariants.ensures.declared in
    c.copied.ensures
    ∙ find_answer (λ (row : Declared). row.number) c.declared.result.now c.args.number c.row_by_hint.result up c.row_by_hint.ensures.found c.row_by_hint.ensures.number c.row_by_hint.ensures.none
    ∙ ap (find (λ (row : Declared). row.number == c.args.number)) c.declared.ensures
