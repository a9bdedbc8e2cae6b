use Rattle.type_graph.proofs.Hopping.{still_owned}
use Rattle.type_graph.proofs.decompose.sorted_fields.Goals as goal

pub returns-clause-field_entries : goal.returns-clause-field_entries
returns-clause-field_entries g c =
    still_owned (g.G.TypeGraph.shape c.args.graph.now) (g.G.TypeGraph.base_of c.args.graph.now) (g.G.TypeGraph.field_of c.args.graph.now) c.args.paths.now.keys c.in_ok-field_entries.field_entries.items c.sort_by_name.new.fields.items c.sort_by_name.ensures.same
    c.in_ok-field_entries.ensures
