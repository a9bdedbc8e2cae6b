use Rattle.std.proofs.Common.{◌∙◌, ap, get_or}
use Rattle.module_table.specs.Parts.{Rows}
use Rattle.ob_targets.specs.Targets.{qualident_member_target}
use Rattle.ob_targets.specs.declared.syntax_position.SyntaxPosition.TheVariants as syntax_positions
use Rattle.ob_resolve.proofs.Referring.{second_refers, read_row, stands_placed}
use Rattle.ob_resolve.proofs.identifier_reference.qualident_member_reference.Goals as goal

pub returns : goal.returns
returns c = second_refers c.args.view.now c.args.number c.args.first (get_or c.uses-uses.result.now c.args.first _) _ _ c.requires.position_is
    (read_row c.uses-uses.result.now c.args.view.now.rows.uses c.args.first _ (c.uses-uses.ensures ∙ ap (λ (r : Rows). r.uses) c.table.ensures)
    (stands_placed c.args.view.now c.args.number (syntax_positions.QualidentMember c.args.first) c.requires.position_is))
    (c.qualident_member_target-target.ensures ∙ ap (qualident_member_target c.args.view.now c.args.number) c.use_target_at-before.ensures) c.use_role.ensures
