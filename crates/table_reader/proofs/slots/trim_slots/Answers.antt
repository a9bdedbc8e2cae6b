use Rattle.std.proofs.Common.{sym, arith}
use Rattle.module_table.specs.TableStages.{stage_of}
use Rattle.table_reader.proofs.Mended.{none_removed}
use Rattle.table_reader.proofs.slots.trim_slots.Goals as goal
use Rattle.table_reader.proofs.slots.trim_slots.Goals.{else-slot-end-via-then-slot-end+else-not-builder, else-slot-end-via-else-slot-end}

pub returns-else-slot-end-clause-stage : goal.returns-else-slot-end-clause-stage
returns-else-slot-end-clause-stage c = λ e.
    let r = c.requires e in
    elim c.else-slot-end.branch [
      | else-slot-end-via-then-slot-end+else-not-builder w ↦ let a = w.if-not-builder.false in absurd cc
      | else-slot-end-via-else-slot-end w ↦ (e, sym (none_removed c.args.slot c.args.end (stage_of c.args.builder.now) (omega (arith, r.0, w.if-slot-end.false))))
    ]
