use Rattle.type_graph.proofs.Opening.{element_once}
use Rattle.type_graph.proofs.laws.element_is_unique.Goals as goal

pub returns : goal.returns
returns g c = element_once g.G.Declaration.PartialEq.eq (g.G.TypeGraph.shape c.args.graph.now) c.args.from
