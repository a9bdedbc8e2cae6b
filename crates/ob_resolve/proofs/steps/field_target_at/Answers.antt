use Rattle.std.proofs.Common.{ap, ◌∙◌}
use Rattle.ob_view.specs.World.{text, World}
use Rattle.ob_resolve.proofs.Stepping.{field_found, field_missed}
use Rattle.ob_resolve.proofs.steps.field_target_at.Goals as goal

pub returns-in-Some-clause-selects : goal.returns-in-Some-clause-selects
returns-in-Some-clause-selects c = field_found c.args.finder.now c.args.node c.args.name c.text-text.result.now c.in_ok-field.field-0 (c.text-text.ensures ∙ ap (λ (w : World). text w c.args.name) (c.view.ensures ∙ c.graph.ensures)) c.in-Some.field _ c.in-Some.is c.field_target.ensures c.in_ok-field.ensures.found

pub returns-in-None-clause-selects : goal.returns-in-None-clause-selects
returns-in-None-clause-selects c = field_missed c.args.finder.now c.args.node c.args.name c.text-text.result.now c.in_ok-field.field-0 (c.text-text.ensures ∙ ap (λ (w : World). text w c.args.name) (c.view.ensures ∙ c.graph.ensures)) c.in-None.is c.in_ok-field.ensures.none
