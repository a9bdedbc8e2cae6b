use Rattle.std.proofs.Common.{◌∙◌}
use Rattle.module_table.specs.declared.rows.Declared.{Declared}
use Rattle.ob_view.specs.World.{declared_at}
use Rattle.ob_view.proofs.Firsts.{listed}
use Rattle.ob_view.proofs.parts.Parts.declared_at.Goals as goal

pub returns-in-None : goal.returns-in-None
unfolding declared_at
returns-in-None c = c.copied.ensures ∙ listed (λ (d : Declared). d.number) _ c.args.number _ c.invariants.ensures.declared c.declaration.ensures.found c.declaration.ensures.number c.declaration.ensures.none
