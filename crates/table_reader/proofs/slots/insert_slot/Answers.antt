use Rattle.std.proofs.Common.{◌≡◌, ◌∙◌, sym, ap, refl, List, Result, Ok, Err, false, if◌then◌else◌}
use Rattle.std.specs.Result.{is_ok, is_err}
use Rattle.module_table.specs.declared.builder.TableBuilder.{TableBuilder}
use Rattle.module_table.specs.declared.rows.Selector.{Selector as SelectorRow}
use Rattle.module_table.specs.TableStages.{Stage, stage_of, builder_rows}
use Rattle.table_reader.specs.SelectorSlots.{inserted}
use Rattle.table_reader.proofs.slots.insert_slot.Goals as goal
use Rattle.table_reader.proofs.slots.insert_slot.Goals.{then-is_err, else-is_err}

if_no_error : {A E X : Type 0} (r : Result A E) (x y : X) → is_err r ≡ false → (if is_ok r then x else y) ≡ x
if_no_error (Ok a) x y e = refl
if_no_error (Err a) x y e = absurd cc

pub returns-clause-stage : goal.returns-clause-stage
unfolding inserted stage_of
returns-clause-stage c = λ e.
    elim c.if-is_err.branch [
      | then-is_err w ↦ let a = ap (λ (d : TableBuilder). d.failed) w.builder-is in absurd cc
      | else-is_err w ↦ (
        sym (ap (λ (d : TableBuilder). d.failed) w.builder-is) ∙ e,
        ap stage_of w.builder-is
            ∙ ap (λ (zs : List SelectorRow). let s : Stage = record { number = c.args.builder.now.number; rows = record (builder_rows c.args.builder.now) { selectors = zs } } in s)
            (c.insert.ensures.items ∙ if_no_error c.insert.result _ _ (sym c.is_err.ensures.value ∙ w.if-is_err.false)),
      )
    ]
