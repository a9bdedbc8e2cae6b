use Rattle.std.proofs.Common.{ap, ◌∙◌}
use Rattle.ob_view.specs.World.{World}
use Rattle.ob_targets.specs.Steps.{guard_type}
use Rattle.ob_resolve.proofs.Selecting.{led_to_elements, led_to_target, led_by_guard}
use Rattle.ob_resolve.proofs.selectors.follow_selector.Goals as goal

pub returns-in_ok-known-in-Elements-clause-step_result : goal.returns-in_ok-known-in-Elements-clause-step_result
returns-in_ok-known-in-Elements-clause-step_result c = led_to_elements c.args.finder.now c.args.before c.args.step c.in-Elements.count _ c.in_ok-known-in-Elements.known c.in-Elements.is c.in_ok-known-in-Elements.ensures.levels

pub returns-in_ok-known-in-Target-clause-step_result : goal.returns-in_ok-known-in-Target-clause-step_result
returns-in_ok-known-in-Target-clause-step_result c = led_to_target c.args.finder.now c.args.before c.args.step _ c.in_ok-known-in-Target.known c.in-Target.is c.in_ok-known-in-Target.ensures.follows

pub returns-in-Arguments-clause-step_result : goal.returns-in-Arguments-clause-step_result
returns-in-Arguments-clause-step_result c = led_by_guard c.args.finder.now c.args.before c.args.step c.in-Arguments.guard _ c.guard_type-known.result c.in-Arguments.is (c.guard_type-known.ensures ∙ ap (λ (w : World). guard_type w c.in-Arguments.guard) c.graph.ensures)
