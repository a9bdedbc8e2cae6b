use Rattle.std.proofs.Common.{◌∙◌}
use Rattle.module_table.specs.declared.rows.DeclGroup.{DeclGroup}
use Rattle.ob_view.specs.World.{decl_group_from}
use Rattle.ob_view.proofs.Firsts.{listed}
use Rattle.ob_view.proofs.parts.Parts.decl_group.Goals as goal

pub returns-in-None : goal.returns-in-None
unfolding decl_group_from
returns-in-None c = c.copied.ensures ∙ listed (λ (d : DeclGroup). d.first) _ c.args.first _ c.invariants.ensures.decl_groups c.decl_group.ensures.found c.decl_group.ensures.number c.decl_group.ensures.none
