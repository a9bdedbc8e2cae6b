use Rattle.std.proofs.Common.{◌≡◌, ◌≤◌, ◌∙◌, List, ap, arith, length, subst}
use Rattle.std.proofs.lemmas.Option.{slice_get-get_or}
use Rattle.module_table.specs.declared.rows.Declared.{Declared}
use Rattle.module_table.specs.Parts.{Rows}
use Rattle.ob_types.proofs.Telling.{own_told, row_more, stay_on, RowsTold}
use Rattle.ob_types.proofs.listed.append_local_fields.Goals as goal

pub loop-index-preserved : goal.loop-index-preserved
loop-index-preserved c =
    let rows = c.declared-rows.result.now in
    let tells = c.in_ok-append_if_field.ensures in
    record {
      stay = stay_on c.args.fields.now.items c.loop-index.fields.items c.append_if_field.new.fields.items c.loop-index.invariant.stay tells.stay;
      listed = row_more c.args.view.now rows c.loop-index.index _ c.loop-index.fields.items c.append_if_field.new.fields.items (slice_get-get_or rows c.loop-index.index _ c.loop-index-test.true) c.loop-index.invariant.listed c.in_ok-append_if_field.ensures;
    }

pub returns : goal.returns
returns c =
    let w = c.args.view.now in
    let same : c.declared-rows.result.now ≡ w.rows.declared = c.declared-rows.ensures ∙ ap (λ (r : Rows). r.declared) c.table.ensures in
    let listed = subst (λ (rows : List Declared). RowsTold w rows c.loop-index.index c.loop-index.fields.items) same c.loop-index.invariant.listed in
    let all = subst (λ (rows : List Declared). length rows ≤ c.loop-index.index) same c.loop-index-test.false in
    own_told w c.args.fields.now.items c.loop-index.fields.items c.loop-index.invariant.stay (λ k row below. listed k row (omega (arith, below, all)))
