use Rattle.std.proofs.Common.{refl, sym, ap, ◌∙◌, ◌∷◌, []}
use Rattle.module_table.specs.TableStages.{added, stage_of}
use Rattle.module_table.specs.Parts.{these_selectors}
use Rattle.table_reader.specs.SelectorSlots.{placeholder}
use Rattle.table_reader.proofs.Room.{no_places, more_places}
use Rattle.table_reader.proofs.slots.reserve_slots.Goals as goal

pub loop-slot-init : goal.loop-slot-init
loop-slot-init c = ((λ e. (e, sym (no_places c.args.head (stage_of c.args.builder.now)))), refl)

pub loop-slot-preserved : goal.loop-slot-preserved
loop-slot-preserved c = (
  (λ e.
      let b = c.add_selector.ensures.stage e in
      let a = c.loop-slot.invariant.0 b.0 in
      (a.0, b.1 ∙ ap (added (these_selectors (placeholder c.args.head ∷ []))) a.1 ∙ sym (more_places c.args.head c.loop-slot.slot (stage_of c.args.builder.now)))),
  c.add_selector.ensures.number ∙ c.loop-slot.invariant.1,
)
