use Rattle.std.proofs.Common.{[]}
use Rattle.type_graph.proofs.Finding.{finds_once}
use Rattle.type_graph.proofs.laws.field_is_unique.Goals as goal

pub returns : goal.returns
returns g c =
    finds_once g.G.Declaration.PartialEq.eq (g.G.TypeGraph.shape c.args.graph.now) (λ (r : g.row.G-Record.Denot). g.G.TypeGraph.field_of c.args.graph.now r c.args.name.now) (g.G.TypeGraph.base_of c.args.graph.now) []
    c.args.from
