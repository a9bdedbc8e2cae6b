use Rattle.type_graph.proofs.Extending.{above_is, above_more}
use Rattle.type_graph.proofs.records.cached_parent.Goals as goal

pub returns-clause-cache : goal.returns-clause-cache
returns-clause-cache g c =
    let shape = g.G.TypeGraph.shape c.args.graph.now in
    let base = g.G.TypeGraph.base_of c.args.graph.now in
    record {
      ends = c.in_ok-parent.ensures.memo;
      parents = above_more shape base g.G.Record.PartialEq.eq g.met.G.TypeGraph.eq_is_identity c.args.cache.now.parents c.insert.new.self c.args.«record» c.in_ok-parent.parent c.requires.parents c.in_ok-insert.ensures c.in_ok-parent.ensures.is;
    }

pub returns-in_err-insert-clause-cache : goal.returns-in_err-insert-clause-cache
returns-in_err-insert-clause-cache g c =
    let shape = g.G.TypeGraph.shape c.args.graph.now in
    let base = g.G.TypeGraph.base_of c.args.graph.now in
    record {
      ends = c.in_ok-parent.ensures.memo;
      parents = above_more shape base g.G.Record.PartialEq.eq g.met.G.TypeGraph.eq_is_identity c.args.cache.now.parents c.insert.new.self c.args.«record» c.in_ok-parent.parent c.requires.parents c.in_err-insert.ensures c.in_ok-parent.ensures.is;
    }

pub returns-in_err-parent-clause-cache : goal.returns-in_err-parent-clause-cache
returns-in_err-parent-clause-cache g c = record { ends = c.in_err-parent.ensures.memo; parents = c.requires.parents }

pub returns-in-Some-clause-is : goal.returns-in-Some-clause-is
returns-in-Some-clause-is g c =
    above_is (g.G.TypeGraph.shape c.args.graph.now) (g.G.TypeGraph.base_of c.args.graph.now) g.G.Record.PartialEq.eq g.met.G.TypeGraph.eq_is_identity c.args.cache.now.parents c.args.«record» c.get.result c.in-Some.parent c.requires.parents c.get.ensures
    c.in-Some.is
