use Rattle.std.proofs.Common.{add-one, refl, subst, ◌∙◌}
use Rattle.type_graph.specs.Searches.{HasElement}
use Rattle.ob_types.specs.SameDeclaration.{same}
use Rattle.ob_types.specs.Shapes.{shape}
use Rattle.ob_view.specs.World.{World}
use Rattle.ob_targets.specs.Steps.{none, one, Follows}
use Rattle.ob_resolve.proofs.steps.indexed_type.Goals as goal

pub loop-level-init : goal.loop-level-init
loop-level-init c = record { types = refl; levels = none }

pub loop-level-preserved : goal.loop-level-preserved
loop-level-preserved c = record {
  types = c.in_ok-at.ensures.types ∙ c.loop-level.invariant.types;
  levels = rw (add-one c.loop-level._level) (one c.loop-level.invariant.levels
      (subst (λ (w : World). Follows (HasElement same (shape w)) c.loop-level.at c.in_ok-at.at) c.loop-level.invariant.types c.in_ok-at.ensures.follows));
}
