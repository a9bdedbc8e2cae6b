use Rattle.std.proofs.Common.{◌∙◌, ap, get_or}
use Rattle.module_table.specs.Parts.{Rows}
use Rattle.ob_targets.specs.declared.syntax_position.SyntaxPosition.TheVariants as syntax_positions
use Rattle.ob_resolve.proofs.Referring.{end_refers, read_row, stands_placed}
use Rattle.ob_resolve.proofs.identifier_reference.end_reference.Goals as goal

pub returns : goal.returns
returns c = end_refers c.args.view.now c.args.number c.args.end (get_or c.ends-ends.result.now c.args.end _) _ c.requires
    (read_row c.ends-ends.result.now c.args.view.now.rows.ends c.args.end _ (c.ends-ends.ensures ∙ ap (λ (r : Rows). r.ends) c.table.ensures)
    (stands_placed c.args.view.now c.args.number (syntax_positions.End c.args.end) c.requires)) c.end_target.ensures
