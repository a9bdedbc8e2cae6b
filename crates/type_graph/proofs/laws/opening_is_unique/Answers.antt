use Rattle.type_graph.proofs.Opening.{opens_to_once}
use Rattle.type_graph.proofs.laws.opening_is_unique.Goals as goal

pub returns : goal.returns
returns g c = opens_to_once g.G.Declaration.PartialEq.eq (g.G.TypeGraph.shape c.args.graph.now) c.args.from
