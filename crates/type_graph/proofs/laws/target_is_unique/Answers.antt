use Rattle.type_graph.proofs.Opening.{target_once}
use Rattle.type_graph.proofs.laws.target_is_unique.Goals as goal

pub returns : goal.returns
returns g c = target_once g.G.Declaration.PartialEq.eq (g.G.TypeGraph.shape c.args.graph.now) c.args.from
