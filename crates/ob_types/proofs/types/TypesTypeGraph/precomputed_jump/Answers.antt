use Rattle.std.proofs.Common.{subst}
use Rattle.std.specs.Prelude.{IfSome}
use Rattle.type_graph.specs.PathOrder.{IsJump}
use Rattle.ob_types.specs.Shapes.{base_of, field_of, shape}
use Rattle.ob_view.specs.World.{World}
use Rattle.ob_types.proofs.types.TypesTypeGraph.precomputed_jump.Goals as goal

pub returns : goal.returns
returns c = subst (λ (w : World). IfSome c.jump.result (IsJump (shape w) (base_of w) (λ r. field_of w r c.args.name.now) c.args.record)) c.self.view_is c.jump.ensures
