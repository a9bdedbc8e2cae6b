use Rattle.std.proofs.Common.{Option, subst}
use Rattle.type_graph.specs.Extending.{IsParent}
use Rattle.type_graph.proofs.Extending.{above_is}
use Rattle.type_graph.proofs.Hopping.{leads_here}
use Rattle.type_graph.proofs.decompose.continues_path.Goals as goal

pub returns-in-Some-Some : goal.returns-in-Some-Some
returns-in-Some-Some g c =
    let shape = g.G.TypeGraph.shape c.args.graph.now in
    let base = g.G.TypeGraph.base_of c.args.graph.now in
    let memo = above_is shape base g.G.Record.PartialEq.eq g.met.G.TypeGraph.eq_is_identity c.args.parents.now c.index-paths-slot.result c.get.result c.in-Some-Some.field-0 c.requires.parents c.get.ensures c.in-Some-Some.is in
    leads_here shape base g.G.Record.PartialEq.eq g.met.G.TypeGraph.eq_is_identity c.args.paths.now c.args.slot c.index-paths-slot.result c.index-paths-slot-in-Some-Some.result c.in-Some-Some.parent c.eq.result
    (subst (λ (o : Option g.row.G-Record.Denot). IsParent shape base c.index-paths-slot.result o) c.in-Some-Some.field-0-is memo) c.index-paths-slot.is c.index-paths-slot-in-Some-Some.is c.requires.within c.eq.ensures
