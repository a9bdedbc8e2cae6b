use Rattle.std.proofs.Common.{ap, ◌∙◌}
use Rattle.ob_view.specs.World.{World}
use Rattle.ob_targets.specs.Targets.{exported_target}
use Rattle.ob_resolve.proofs.Stepping.{selects_nothing, selects_exported}
use Rattle.ob_resolve.proofs.steps.selected_target.Goals as goal

pub returns-in-Nothing-clause-selects : goal.returns-in-Nothing-clause-selects
returns-in-Nothing-clause-selects c = selects_nothing _ _ _ c.in-Nothing.is

pub returns-in-Module-clause-selects : goal.returns-in-Module-clause-selects
returns-in-Module-clause-selects c = selects_exported _ _ _ _ _ c.in-Module.is (c.exported_target.ensures ∙ ap (λ (w : World). exported_target w c.in-Module.item c.args.name) (c.view.ensures ∙ c.graph.ensures))
