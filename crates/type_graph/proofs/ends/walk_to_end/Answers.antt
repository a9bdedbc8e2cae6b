use Rattle.std.proofs.Common.{sym, ◌∙◌, arith}
use Rattle.type_graph.specs.Progress.{progress}
use Rattle.type_graph.proofs.Link.{ended, ended_again, ended_here, ended_kept, followed, no_further, not_followed, passed_less, walks_nowhere, walks_on, walks_through}
use Rattle.type_graph.proofs.ends.walk_to_end.Goals as goal

pub types-init : goal.types-init
types-init g c = walks_nowhere (g.G.TypeGraph.shape c.args.graph.now) c.args.pointers g.G.Declaration.PartialEq.eq (g.met.G.TypeGraph.named c.args.graph.now) c.args.from c.args.detector.now.checkpoints.items c.requires.none_passed

pub returns-in-Some : goal.returns-in-Some
returns-in-Some g c =
    ended_kept (g.G.TypeGraph.shape c.args.graph.now) c.args.pointers g.G.Declaration.PartialEq.eq (g.met.G.TypeGraph.named c.args.graph.now) c.args.memo.now c.args.from c.types.node c.in-Named.next c.types.detector.checkpoints.items
    c.in-Named.declaration c.get.result c.in-Some.end c.requires.memo (sym c.shape.ensures ∙ c.in-Named.is) c.in-Some.is c.get.ensures c.types.invariant

pub returns-then-closes_cycle : goal.returns-then-closes_cycle
returns-then-closes_cycle g c =
    ended_again (g.G.TypeGraph.shape c.args.graph.now) c.args.pointers g.G.Declaration.PartialEq.eq (g.met.G.TypeGraph.named c.args.graph.now) c.args.from c.types.node c.in-Named.next c.types.detector.checkpoints.items
    c.in-Named.declaration (sym c.shape.ensures ∙ c.in-Named.is) (c.closes_cycle.ensures c.if-closes_cycle.true) c.types.invariant

pub returns-in-Some-end_if_precomputed : goal.returns-in-Some-end_if_precomputed
returns-in-Some-end_if_precomputed g c =
    ended (g.G.TypeGraph.shape c.args.graph.now) c.args.pointers g.G.Declaration.PartialEq.eq (g.met.G.TypeGraph.named c.args.graph.now) c.args.from c.in-Named.next c.visit.new.detector.checkpoints.items c.in-Some-end_if_precomputed.known
    (walks_through (g.G.TypeGraph.shape c.args.graph.now) c.args.pointers g.G.Declaration.PartialEq.eq (g.met.G.TypeGraph.named c.args.graph.now) c.args.from c.types.node c.in-Named.next c.types.detector.checkpoints.items c.visit.new.detector.checkpoints.items
    c.in-Named.declaration (sym c.shape.ensures ∙ c.in-Named.is) c.in_ok-visit-in-Named.ensures.checkpoints c.types.invariant) c.in-Some-end_if_precomputed.ensures

pub types-preserved-in-Named : goal.types-preserved-in-Named
types-preserved-in-Named g c =
    walks_through (g.G.TypeGraph.shape c.args.graph.now) c.args.pointers g.G.Declaration.PartialEq.eq (g.met.G.TypeGraph.named c.args.graph.now) c.args.from c.types.node c.in-Named.next c.types.detector.checkpoints.items c.visit.new.detector.checkpoints.items
    c.in-Named.declaration (sym c.shape.ensures ∙ c.in-Named.is) c.in_ok-visit-in-Named.ensures.checkpoints c.types.invariant

pub returns-then-not-pointers : goal.returns-then-not-pointers
returns-then-not-pointers g c =
    ended_here (g.G.TypeGraph.shape c.args.graph.now) c.args.pointers g.G.Declaration.PartialEq.eq (g.met.G.TypeGraph.named c.args.graph.now) c.args.from c.types.node c.types.detector.checkpoints.items
    (not_followed c.args.pointers _ c.in-Pointer.next c.if-not-pointers.true (sym c.shape.ensures ∙ c.in-Pointer.is)) c.types.invariant

pub types-preserved : goal.types-preserved
types-preserved g c =
    walks_on (g.G.TypeGraph.shape c.args.graph.now) c.args.pointers g.G.Declaration.PartialEq.eq (g.met.G.TypeGraph.named c.args.graph.now) c.args.from c.types.node c.in-Pointer.next c.types.detector.checkpoints.items
    (followed c.args.pointers _ c.in-Pointer.next c.if-not-pointers.false (sym c.shape.ensures ∙ c.in-Pointer.is)) c.types.invariant

pub returns-in-Array : goal.returns-in-Array
returns-in-Array g c =
    ended_here (g.G.TypeGraph.shape c.args.graph.now) c.args.pointers g.G.Declaration.PartialEq.eq (g.met.G.TypeGraph.named c.args.graph.now) c.args.from c.types.node c.types.detector.checkpoints.items
    (rw (sym c.shape.ensures) (no_further c.args.pointers _ c.in-Array.is)) c.types.invariant

pub types-smaller-in-Named : goal.types-smaller-in-Named
types-smaller-in-Named g c =
    passed_less (progress c.types.detector) (progress c.visit.new.detector) (g.G.TypeGraph.height c.args.graph.now) (g.G.TypeGraph.depth c.args.graph.now c.in-Named.next) (g.G.TypeGraph.depth c.args.graph.now c.types.node)
    c.in_ok-visit-in-Named.ensures.progresses c.in_ok-visit-in-Named.ensures.few (g.met.G.TypeGraph.deep c.args.graph.now c.in-Named.next)

pub types-smaller : goal.types-smaller
types-smaller g c = omega (arith, g.met.G.TypeGraph.pointed c.args.graph.now c.types.node c.in-Pointer.next (sym c.shape.ensures ∙ c.in-Pointer.is))
