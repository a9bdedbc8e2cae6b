use Rattle.std.proofs.lemmas.Result.{IfOk-weaker}
use Rattle.type_graph.specs.Extending.{IsParent, IsNextParent}
use Rattle.type_graph.proofs.Extending.{marked_before, onto_above, passed_anew}
use Rattle.type_graph.proofs.records.climb_to_ancestor.Goals as goal

pub returns-then-closes_cycle-clause-next : goal.returns-then-closes_cycle-clause-next
returns-then-closes_cycle-clause-next g c =
    let shape = g.G.TypeGraph.shape c.args.graph.now in
    let base = g.G.TypeGraph.base_of c.args.graph.now in
    let field = λ (r : g.row.G-Record.Denot). g.G.TypeGraph.field_of c.args.graph.now r c.args.name.now in
    marked_before shape base field g.G.Record.PartialEq.eq g.met.G.TypeGraph.eq_is_identity c.args.«record» c.args.detector.now.checkpoints.items c.closes_cycle.result c.if-closes_cycle.true c.closes_cycle.ensures

pub returns-in-Onto-clause-next : goal.returns-in-Onto-clause-next
returns-in-Onto-clause-next g c =
    let shape = g.G.TypeGraph.shape c.args.graph.now in
    let base = g.G.TypeGraph.base_of c.args.graph.now in
    let field = λ (r : g.row.G-Record.Denot). g.G.TypeGraph.field_of c.args.graph.now r c.args.name.now in
    let jumps = c.in-Onto.ensures in
    passed_anew shape base field g.G.Record.PartialEq.eq g.met.G.TypeGraph.eq_is_identity c.args.«record» jumps.0 c.args.detector.now.checkpoints.items c.visit.new.detector.checkpoints.items _ c.in_ok-visit.ensures.checkpoints jumps.1 (onto_above shape base field jumps.0 c.in-Onto.parent jumps.2)

pub returns-in-From-clause-next : goal.returns-in-From-clause-next
returns-in-From-clause-next g c =
    let shape = g.G.TypeGraph.shape c.args.graph.now in
    let base = g.G.TypeGraph.base_of c.args.graph.now in
    let field = λ (r : g.row.G-Record.Denot). g.G.TypeGraph.field_of c.args.graph.now r c.args.name.now in
    IfOk-weaker c.cached_parent.result (IsParent shape base c.in-From.last) (IsNextParent shape base field g.G.Record.PartialEq.eq c.args.«record» c.args.detector.now.checkpoints.items c.visit.new.detector.checkpoints.items)
    (λ o. passed_anew shape base field g.G.Record.PartialEq.eq g.met.G.TypeGraph.eq_is_identity c.args.«record» c.in-From.last c.args.detector.now.checkpoints.items c.visit.new.detector.checkpoints.items o c.in_ok-visit.ensures.checkpoints c.in-From.ensures)
    c.cached_parent.ensures.is
