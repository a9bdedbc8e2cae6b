use Rattle.std.proofs.lemmas.Option.{slice_get-get_or}
use Rattle.ob_resolve.proofs.Selecting.{known_at_head, known_behind}
use Rattle.ob_resolve.proofs.selectors.type_before.Goals as goal

pub returns-then-begins_designator : goal.returns-then-begins_designator
returns-then-begins_designator c = known_at_head c.args.types.now c.args.selectors.now c.args.position _ c.begins_designator.result c.use_target_by_token.result c.target_type.result c.view.result.now c.view.ensures c.requires.same
    (slice_get-get_or c.args.selectors.now c.args.position _ c.requires.within) c.begins_designator.ensures c.if-begins_designator.true c.use_target_by_token.ensures c.target_type.ensures

pub returns-else-begins_designator : goal.returns-else-begins_designator
returns-else-begins_designator c = known_behind c.args.types.now c.args.selectors.now c.args.position _ c.begins_designator.result c.args.previous_type c.requires.same
    (slice_get-get_or c.args.selectors.now c.args.position _ c.requires.within) c.begins_designator.ensures c.if-begins_designator.false c.requires.previous_type
