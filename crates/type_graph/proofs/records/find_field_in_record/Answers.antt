use Rattle.type_graph.proofs.Extending.{own_is}
use Rattle.type_graph.proofs.records.find_field_in_record.Goals as goal

pub returns-in-Some-clause-is : goal.returns-in-Some-clause-is
returns-in-Some-clause-is g c =
    own_is (g.G.TypeGraph.shape c.args.graph.now) (g.G.TypeGraph.base_of c.args.graph.now) (λ (r : g.row.G-Record.Denot). g.G.TypeGraph.field_of c.args.graph.now r c.args.name.now) c.args.from c.in-Some.field c.field.result c.field.ensures c.in-Some.is
