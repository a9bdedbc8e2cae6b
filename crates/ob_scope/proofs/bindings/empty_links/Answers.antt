use Rattle.ob_scope.proofs.SightSteps.{none_push}
use Rattle.std.proofs.Common.{length-append, None, [], ◌∷◌, arith}
use Rattle.ob_scope.proofs.bindings.empty_links.Goals as goal

pub loop-locations-preserved : goal.loop-locations-preserved
loop-locations-preserved c =
    rw c.in_ok-push.ensures.items
    (record {
      few = (let long = length-append c.loop-locations.locations.items (None ∷ []) in let less = c.loop-locations-test.true in let e = c.len.ensures in omega arith);
      none = none_push c.loop-locations.locations.items c.loop-locations.invariant.none;
    })
