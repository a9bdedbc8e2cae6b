use Rattle.std.proofs.Common.{◌≡◌, ◌-◌, ◌∙◌, ap, arith}
use Rattle.module_table.specs.Parts.{Rows}
use Rattle.ob_view.specs.World.{field_at}
use Rattle.ob_types.proofs.Backwards.{row_before}
use Rattle.ob_types.proofs.field_index.index_fields.Goals as goal

pub rows-preserved : goal.rows-preserved
rows-preserved c = record {
  within = omega arith;
  fields = λ key.
      row_before _ (λ d. d.number) c.declared-rows.result.now (c.rows.at - 1) c.rows.at _ _ _ (omega arith) (omega arith) (c.in_ok-insert_if_field.ensures key) (rw c.deref_mut.ensures.value (c.rows.invariant.fields key));
}

pub returns : goal.returns
unfolding field_at
returns c = λ key.
    let zero : c.rows.at ≡ 0 = omega arith in
    let whole = rw zero at (c.rows.invariant.fields key) in
    let same : c.declared-rows.result.now ≡ c.args.view.now.rows.declared = c.declared-rows.ensures ∙ ap (λ (r : Rows). r.declared) c.table.ensures in
    rw same at whole
