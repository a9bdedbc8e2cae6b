use Rattle.std.proofs.Common.{◌≡◌, ◌-◌, ◌+◌, ◌<◌, ◌∙◌, ℕ, List, take, drop, get_or, length, ap, sym, subst, arith}
use Rattle.std.specs.Prelude.{All, Contains, map}
use Rattle.std.proofs.lemmas.List.{get_or_default}
use Rattle.residual_graph.specs.declared.arc.OutArc.{OutArc}
use Rattle.residual_graph.specs.Graphs.{Graph, HasArc, tail}
use Rattle.residual_graph.specs.OutArcs.{IsOutOf, begin_of, step_of}
use Rattle.residual_graph.proofs.Listing.{run_all, run_each}
use Rattle.residual_graph.proofs.graph.ResidualGraph.residual_arcs.Goals as goal

-- the list between the two indices that are read
run_is : (begins : List ℕ) (outs lent : List OutArc) (u begin end : ℕ) → u + 1 < length begins → begin ≡ get_or begins u begin → end ≡ get_or begins (u + 1) end → lent ≡ outs →
    take (begin_of begins (u + 1) - begin_of begins u) (drop (begin_of begins u) outs) ≡ take (end - begin) (drop begin lent)
run_is begins outs lent u begin end low at_begin at_end is =
    let begin_is : get_or begins u 0 ≡ begin = sym (at_begin ∙ get_or_default begins u begin 0 (omega arith)) in
    let end_is : get_or begins (u + 1) 0 ≡ end = sym (at_end ∙ get_or_default begins (u + 1) end 0 low) in
    ap (λ n. take (begin_of begins (u + 1) - n) (drop n outs)) begin_is ∙ ap (λ n. take (n - begin) (drop begin outs)) end_is ∙ ap (λ v. take (end - begin) (drop begin v)) (sym is)

pub returns-clause-each : goal.returns-clause-each
returns-clause-each c =
    let g = c.self.inside in
    let l = c.self.invariant in
    let low : c.args.node < g.nodes = subst (λ (v : Graph). c.args.node < v.nodes) (sym c.self.view_is) c.requires in
    let size = l.each_begins in
    let is = run_is g.begins.items g.outs.items c.deref.result.now c.args.node c.index-begin.result.now c.index-end.result.now (omega arith) c.index-begin.ensures c.index-end.ensures c.deref.ensures.value in
    subst (λ (v : Graph). All (IsOutOf v c.args.node) (take (c.index-end.result.now - c.index-begin.result.now) (drop c.index-begin.result.now c.deref.result.now))) c.self.view_is
    (subst (All (IsOutOf (record { nodes = g.nodes; arcs = g.arcs.items }) c.args.node)) is (run_each g.arcs.items g.nodes g.begins.items g.outs.items g.indexes.items l c.args.node low))

pub returns-clause-all : goal.returns-clause-all
returns-clause-all c s =
    let g = c.self.inside in
    let l = c.self.invariant in
    let low : c.args.node < g.nodes = subst (λ (v : Graph). c.args.node < v.nodes) (sym c.self.view_is) c.requires in
    let size = l.each_begins in
    let is = run_is g.begins.items g.outs.items c.deref.result.now c.args.node c.index-begin.result.now c.index-end.result.now (omega arith) c.index-begin.ensures c.index-end.ensures c.deref.ensures.value in
    subst (λ (v : Graph). HasArc v.arcs s → tail v.arcs s ≡ c.args.node → Contains (map step_of (take (c.index-end.result.now - c.index-begin.result.now) (drop c.index-begin.result.now c.deref.result.now))) s) c.self.view_is
    (subst (λ r. HasArc g.arcs.items s → tail g.arcs.items s ≡ c.args.node → Contains (map step_of r) s) is (run_all g.arcs.items g.nodes g.begins.items g.outs.items g.indexes.items l c.args.node low s))
