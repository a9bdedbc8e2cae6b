use Rattle.std.proofs.Common.{◌≡◌, ◌<◌, ◌≤◌, ◌∙◌, List, Some, ap, arith, length, map, subst, sym}
use Rattle.std.specs.Prelude.{slice_get}
use Rattle.std.specs.Arc.{arc_value}
use Rattle.std.proofs.lemmas.List.{get_or-map, length-map}
use Rattle.std.proofs.lemmas.Option.{slice_get-get_or}
use Rattle.ob_interface.specs.Interfaces.{ModuleInterface}
use Rattle.ob_types.specs.FieldLists.{ListsReached}
use Rattle.ob_types.proofs.Telling.{module_more, reached_told, stay_on}
use Rattle.ob_types.proofs.listed.append_reached_fields.Goals as goal

pub loop-at-preserved : goal.loop-at-preserved
loop-at-preserved c =
    let reached = c.reached-reached.result.now in
    let at = c.loop-at.at in
    let element = c.index-reached-at.result in
    let all : at < length (map arc_value reached) = omega (arith, length-map reached arc_value) in
    let it = get_or-map arc_value reached at element (arc_value element) c.loop-at-test.true ∙ ap arc_value (sym c.index-reached-at.is) ∙ sym c.deref.ensures in
    let external : slice_get (map arc_value reached) at ≡ Some c.deref.result.now = slice_get-get_or (map arc_value reached) at (arc_value element) all ∙ ap (λ (m : ModuleInterface). Some m) it in
    let tells = c.in_ok-append_module_fields.ensures in
    record {
      stay = stay_on c.args.fields.now.items c.loop-at.fields.items c.append_module_fields.new.fields.items c.loop-at.invariant.stay tells.stay;
      listed = module_more (map arc_value reached) at c.deref.result.now c.loop-at.fields.items c.append_module_fields.new.fields.items external c.loop-at.invariant.listed tells;
    }

pub returns : goal.returns
returns c =
    let reached = c.reached-reached.result.now in
    let all : length (map arc_value reached) ≤ c.loop-at.at = omega (arith, length-map reached arc_value) in
    subst (λ (ms : List ModuleInterface). ListsReached ms c.args.fields.now.items c.loop-at.fields.items) c.reached-reached.ensures
    (reached_told (map arc_value reached) c.loop-at.at c.args.fields.now.items c.loop-at.fields.items c.loop-at.invariant.stay c.loop-at.invariant.listed all)
