use Rattle.std.proofs.Common.{ap, ◌∙◌}
use Rattle.ob_view.specs.World.{World}
use Rattle.ob_targets.specs.Targets.{target_type}
use Rattle.ob_resolve.proofs.Selecting.{led_to_field}
use Rattle.ob_resolve.proofs.selectors.select_by_name.Goals as goal

pub returns-clause-step_result : goal.returns-clause-step_result
returns-clause-step_result c =
    led_to_field c.args.finder.now c.args.before c.args.name c.in_ok-target.target c.target_type.result c.in_ok-target.ensures.selects
    (c.target_type.ensures ∙ ap (λ (w : World). target_type w c.in_ok-target.target) (c.graph.ensures ∙ c.in_ok-target.ensures.types))
