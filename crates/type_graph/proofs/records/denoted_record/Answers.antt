use Rattle.std.proofs.Common.{ap, ◌∙◌}
use Rattle.type_graph.specs.Extending.{shape_record}
use Rattle.type_graph.proofs.Extending.{of_end, of_none}
use Rattle.type_graph.proofs.records.denoted_record.Goals as goal

pub returns-in-None-clause-is : goal.returns-in-None-clause-is
returns-in-None-clause-is g c = of_none (g.G.TypeGraph.shape c.args.graph.now) c.args.from c.in_ok-find_end.field-0 c.in-None.is c.in_ok-find_end.ensures.end

pub returns-in-Some-clause-is : goal.returns-in-Some-clause-is
returns-in-Some-clause-is g c =
    of_end (g.G.TypeGraph.shape c.args.graph.now) c.args.from c.in-Some.node c.in_ok-find_end.field-0 c.shape_record.result c.in-Some.is c.in_ok-find_end.ensures.end (c.shape_record.ensures ∙ ap shape_record c.shape.ensures)
