use Rattle.type_graph.proofs.Extending.{lacks_itself}
use Rattle.type_graph.proofs.records.jump_if_precomputed.Goals as goal

pub returns-then-not-is_long_search : goal.returns-then-not-is_long_search
returns-then-not-is_long_search g c =
    lacks_itself (g.G.TypeGraph.shape c.args.graph.now) (g.G.TypeGraph.base_of c.args.graph.now) (λ (r : g.row.G-Record.Denot). g.G.TypeGraph.field_of c.args.graph.now r c.args.name.now) c.args.«record» c.requires

pub returns-in-None : goal.returns-in-None
returns-in-None g c =
    lacks_itself (g.G.TypeGraph.shape c.args.graph.now) (g.G.TypeGraph.base_of c.args.graph.now) (λ (r : g.row.G-Record.Denot). g.G.TypeGraph.field_of c.args.graph.now r c.args.name.now) c.args.«record» c.requires
