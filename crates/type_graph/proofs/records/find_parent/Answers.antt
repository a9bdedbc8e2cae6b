use Rattle.std.proofs.lemmas.Result.{IfOk-weaker}
use Rattle.type_graph.specs.Extending.{IsParent, IsRecordOf}
use Rattle.type_graph.proofs.Extending.{above_by, none_above}
use Rattle.type_graph.proofs.records.find_parent.Goals as goal

pub returns-in-None-clause-is : goal.returns-in-None-clause-is
returns-in-None-clause-is g c = none_above (g.G.TypeGraph.shape c.args.graph.now) (g.G.TypeGraph.base_of c.args.graph.now) c.args.«record» c.base.result c.base.ensures c.in-None.is

pub returns-in-Some-clause-is : goal.returns-in-Some-clause-is
returns-in-Some-clause-is g c =
    IfOk-weaker c.denoted_record.result (IsRecordOf (g.G.TypeGraph.shape c.args.graph.now) c.in-Some.base) (IsParent (g.G.TypeGraph.shape c.args.graph.now) (g.G.TypeGraph.base_of c.args.graph.now) c.args.«record»)
    (λ o. above_by (g.G.TypeGraph.shape c.args.graph.now) (g.G.TypeGraph.base_of c.args.graph.now) c.args.«record» c.base.result c.in-Some.base o c.base.ensures c.in-Some.is) c.denoted_record.ensures.is
