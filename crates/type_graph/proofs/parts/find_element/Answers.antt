use Rattle.std.proofs.Common.{ap, ◌∙◌}
use Rattle.type_graph.specs.Searches.{element_of}
use Rattle.type_graph.proofs.Coming.{element_told, no_element}
use Rattle.type_graph.proofs.parts.find_element.Goals as goal

pub returns-in-None-clause-none : goal.returns-in-None-clause-none
returns-in-None-clause-none g c =
    no_element g.G.Declaration.PartialEq.eq (g.G.TypeGraph.shape c.args.graph.now) (g.met.G.TypeGraph.named c.args.graph.now) c.args.from c.in_ok-find_end.field-0 c.in-None.is c.in_ok-find_end.ensures.end

pub returns-in-Some-clause-found : goal.returns-in-Some-clause-found
returns-in-Some-clause-found g c =
    (element_told g.G.Declaration.PartialEq.eq (g.G.TypeGraph.shape c.args.graph.now) (g.met.G.TypeGraph.named c.args.graph.now) c.args.from c.in-Some.node c.in_ok-find_end.field-0 c.element_of.result
    c.in-Some.is c.in_ok-find_end.ensures.end (c.element_of.ensures ∙ ap element_of c.shape.ensures)).0

pub returns-in-Some-clause-none : goal.returns-in-Some-clause-none
returns-in-Some-clause-none g c =
    (element_told g.G.Declaration.PartialEq.eq (g.G.TypeGraph.shape c.args.graph.now) (g.met.G.TypeGraph.named c.args.graph.now) c.args.from c.in-Some.node c.in_ok-find_end.field-0 c.element_of.result
    c.in-Some.is c.in_ok-find_end.ensures.end (c.element_of.ensures ∙ ap element_of c.shape.ensures)).1
