use Rattle.std.proofs.Common.{List, sym, subst}
use Rattle.std.specs.List.{All}
use Rattle.type_graph.specs.Extending.{IsFieldIn}
use Rattle.type_graph.proofs.records.find_and_memoize_field.Goals as goal

pub memoize_field-requires-clause-checkpoints : goal.memoize_field-requires-clause-checkpoints
memoize_field-requires-clause-checkpoints g c =
    let shape = g.G.TypeGraph.shape c.args.graph.now in
    let base = g.G.TypeGraph.base_of c.args.graph.now in
    let field = λ (r : g.row.G-Record.Denot). g.G.TypeGraph.field_of c.args.graph.now r c.args.name.now in
    subst (λ (rs : List g.row.G-Record.Denot). All (λ r. IsFieldIn shape base field r c.in_ok-field.field) rs) (sym c.as_slice.ensures.value) c.in_ok-field.ensures.fields.each
