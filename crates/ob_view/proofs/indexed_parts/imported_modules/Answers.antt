-- The index of one more item's module.
use Rattle.std.proofs.Common.{ap, ◌∙◌, map}
use Rattle.std.specs.Arc.{arc_value}
use Rattle.std.proofs.lemmas.List.{take_all}
use Rattle.ob_view.specs.ModuleNumbers.{module_number_in}
use Rattle.ob_view.specs.WorldOfParts.{module_by_item, world_of}
use Rattle.ob_view.proofs.Ascending.{mapped_more}
use Rattle.ob_view.proofs.indexed_parts.imported_modules.Goals as goal

pub loop-item-init : goal.loop-item-init
loop-item-init c = c.new-indexes.ensures.items

pub loop-item-preserved : goal.loop-item-preserved
loop-item-preserved c =
    rw c.in_ok-push.ensures.items
    (mapped_more (module_by_item (world_of c.args.parts.now)) c.imports-item-items.result.now c.loop-item.item-index _ _ _ c.loop-item-test.true c.loop-item.invariant
    (c.module_number_in.ensures ∙ ap (module_number_in (map arc_value c.args.parts.now.reached.now)) c.text.ensures))

pub returns : goal.returns
returns c =
    c.loop-item.invariant
    ∙ ap (map (module_by_item (world_of c.args.parts.now))) (take_all c.loop-item.item-index c.imports-item-items.result.now c.loop-item-test.false ∙ c.imports-item-items.ensures)
