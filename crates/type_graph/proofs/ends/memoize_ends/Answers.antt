use Rattle.std.proofs.Common.{sym, subst}
use Rattle.type_graph.specs.Link.{IsTypeEndOf}
use Rattle.type_graph.proofs.Link.{keeps_more}
use Rattle.type_graph.proofs.ends.memoize_ends.Goals as goal

pub loop-declaration-preserved : goal.loop-declaration-preserved
loop-declaration-preserved g c =
    keeps_more (g.G.TypeGraph.shape c.args.graph.now) c.args.pointers g.G.Declaration.PartialEq.eq c.loop-declaration.memo c.insert.new.self c.declaration-item.result c.args.end c.loop-declaration.invariant c.in_ok-insert.ensures
    (subst (IsTypeEndOf (g.G.TypeGraph.shape c.args.graph.now) c.args.pointers g.G.Declaration.PartialEq.eq c.args.end) (sym c.declaration-item.is)
    (c.requires.checkpoints c.loop-declaration.declaration-index c.declaration-item.result c.loop-declaration-test.true))

pub returns-in_err-insert : goal.returns-in_err-insert
returns-in_err-insert g c =
    keeps_more (g.G.TypeGraph.shape c.args.graph.now) c.args.pointers g.G.Declaration.PartialEq.eq c.loop-declaration.memo c.insert.new.self c.declaration-item.result c.args.end c.loop-declaration.invariant c.in_err-insert.ensures
    (subst (IsTypeEndOf (g.G.TypeGraph.shape c.args.graph.now) c.args.pointers g.G.Declaration.PartialEq.eq c.args.end) (sym c.declaration-item.is)
    (c.requires.checkpoints c.loop-declaration.declaration-index c.declaration-item.result c.loop-declaration-test.true))
