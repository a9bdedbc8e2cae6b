use Rattle.std.proofs.Common.{◌≡◌, ◌∙◌, List, Some, ap, arith, length, subst, sym}
use Rattle.std.proofs.lemmas.Option.{slice_get-get_or}
use Rattle.type_graph.specs.declared.listed.RecordField.{RecordField}
use Rattle.type_graph.specs.ListedFields.{AreAllFields}
use Rattle.type_graph.proofs.Hopping.{all_added, one_more}
use Rattle.type_graph.proofs.decompose.collect_fields.Goals as goal

pub loop-field-preserved : goal.loop-field-preserved
loop-field-preserved g c =
    one_more (g.G.TypeGraph.shape c.args.graph.now) (g.G.TypeGraph.base_of c.args.graph.now) (g.G.TypeGraph.field_of c.args.graph.now) g.G.Record.PartialEq.eq c.args.paths.now.keys c.deref-field-items.result.now c.loop-field.field-index c.field-item.result
    c.loop-field.field_entries.items c.append_field_entry.new.field_entries.items
    (slice_get-get_or c.deref-field-items.result.now c.loop-field.field-index c.field-item.result c.loop-field-test.true ∙ ap (λ (it : RecordField g.row.G-Record.Denot). Some it) (sym c.field-item.is))
    c.loop-field.invariant c.in_ok-append_field_entry.ensures

pub returns : goal.returns
returns g c =
    let field = g.G.TypeGraph.field_of c.args.graph.now in
    let listed = subst (λ (fields : List (RecordField g.row.G-Record.Denot)). AreAllFields field fields) (sym c.deref-field-items.ensures.value) c.in_ok-listed.ensures in
    let all : length c.deref-field-items.result.now ≡ c.loop-field.field-index = omega arith in
    all_added (g.G.TypeGraph.shape c.args.graph.now) (g.G.TypeGraph.base_of c.args.graph.now) field g.G.Record.PartialEq.eq g.met.G.TypeGraph.eq_is_identity (g.met.G.Record.Eq.laws).refl c.args.paths.now.keys c.deref-field-items.result.now
    c.loop-field.field_entries.items c.len.ensures.unique listed (λ k it below. c.loop-field.invariant k it (omega arith))
