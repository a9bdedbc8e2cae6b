use Rattle.std.proofs.Common.{◌∙◌, refl, sym}
use Rattle.ob_scope.proofs.SightSteps.{sight_none}
use Rattle.ob_scope.proofs.bindings.empty_bindings.Goals as goal

pub returns-clause-bindings : goal.returns-clause-bindings
returns-clause-bindings c = λ blocks ds numbers long.
    sight_none blocks ds numbers c.args.names _ c.new-stack.ensures.items refl c.in_ok-latest.ensures.len (c.in_ok-earlier.ensures.len ∙ sym long) c.in_ok-latest.ensures.none c.in_ok-earlier.ensures.none
