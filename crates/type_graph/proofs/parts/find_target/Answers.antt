use Rattle.std.proofs.Common.{ap, ◌∙◌}
use Rattle.type_graph.specs.Searches.{target_of}
use Rattle.type_graph.proofs.Coming.{target_told, no_target}
use Rattle.type_graph.proofs.parts.find_target.Goals as goal

pub returns-in-None-clause-none : goal.returns-in-None-clause-none
returns-in-None-clause-none g c =
    no_target g.G.Declaration.PartialEq.eq (g.G.TypeGraph.shape c.args.graph.now) (g.met.G.TypeGraph.named c.args.graph.now) c.args.from c.in_ok-find_end.field-0 c.in-None.is c.in_ok-find_end.ensures.end

pub returns-in-Some-clause-found : goal.returns-in-Some-clause-found
returns-in-Some-clause-found g c =
    (target_told g.G.Declaration.PartialEq.eq (g.G.TypeGraph.shape c.args.graph.now) (g.met.G.TypeGraph.named c.args.graph.now) c.args.from c.in-Some.node c.in_ok-find_end.field-0 c.target_of.result
    c.in-Some.is c.in_ok-find_end.ensures.end (c.target_of.ensures ∙ ap target_of c.shape.ensures)).0

pub returns-in-Some-clause-none : goal.returns-in-Some-clause-none
returns-in-Some-clause-none g c =
    (target_told g.G.Declaration.PartialEq.eq (g.G.TypeGraph.shape c.args.graph.now) (g.met.G.TypeGraph.named c.args.graph.now) c.args.from c.in-Some.node c.in_ok-find_end.field-0 c.target_of.result
    c.in-Some.is c.in_ok-find_end.ensures.end (c.target_of.ensures ∙ ap target_of c.shape.ensures)).1
