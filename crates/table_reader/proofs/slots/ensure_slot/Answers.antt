use Rattle.std.proofs.Common.{ap, length, arith}
use Rattle.module_table.specs.TableStages.{Stage, stage_of}
use Rattle.module_table.proofs.Steps.{selectors_of}
use Rattle.table_reader.specs.SelectorSlots.{placeholder}
use Rattle.table_reader.proofs.Mended.{inserted_length}
use Rattle.table_reader.proofs.slots.ensure_slot.Goals as goal

pub returns-clause-slot : goal.returns-clause-slot
returns-clause-slot c = λ e.
    let a = c.insert_slot.ensures.stage e in
    let r = c.requires a.0 in
    let old = ap length (selectors_of c.args.builder.now) in
    let new = ap length (selectors_of c.insert_slot.new.builder) in
    let grown = ap (λ (s : Stage). length s.rows.selectors) a.1 in
    let more = inserted_length c.args.end (placeholder c.args.head) (stage_of c.args.builder.now) (omega (arith, r.1, old)) in omega (arith, r.0, r.1, old, new, grown, more)
