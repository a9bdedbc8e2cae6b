use Rattle.std.proofs.Common.{length, refl, arith}
use Rattle.std.proofs.lemmas.Grind.{common_steps}
use Rattle.ob_scope.proofs.SightSteps.{sight_as}
use Rattle.ob_scope.proofs.uses.resolve_with_types.Goals as goal

pub resolve_each-requires-clause-bindings : goal.resolve_each-requires-clause-bindings
resolve_each-requires-clause-bindings c =
    let numbers = c.args.named.now.numbers.items in
    sight_as c.args.blocks.now c.args.members.now numbers numbers c.len.result (length c.args.named.now.names.keys) c.in_ok-bindings.bindings refl c.len.ensures.len
    (c.in_ok-bindings.ensures.bindings c.args.blocks.now c.args.members.now numbers refl)

pub resolve_each-requires-clause-zero : goal.resolve_each-requires-clause-zero
resolve_each-requires-clause-zero c = grind (arith, common_steps)

pub returns-clause-counted : goal.returns-clause-counted
returns-clause-counted c = grind (arith, common_steps)
