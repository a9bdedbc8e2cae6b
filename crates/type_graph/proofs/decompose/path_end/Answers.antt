use Rattle.std.proofs.Common.{arith, refl}
use Rattle.type_graph.proofs.Hopping.{ends_behind}
use Rattle.type_graph.proofs.decompose.path_end.Goals as goal

pub returns-then-continues_path : goal.returns-then-continues_path
returns-then-continues_path g c =
    ends_behind (g.G.TypeGraph.shape c.args.graph.now) (g.G.TypeGraph.base_of c.args.graph.now) c.args.paths.now c.args.ends.now c.args.slot _ 0 c.if-continues_path.ensures c.requires.behind (omega arith) refl
