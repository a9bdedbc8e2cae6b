-- One more edge.
use Rattle.std.proofs.Common.{◌≡◌, ◌<◌, ◌∙◌, List, length, ap, take_all, arith}
use Rattle.std.specs.Prelude.{vec_len}
use Rattle.std.proofs.lemmas.List.{length-map}
use Rattle.std.proofs.lemmas.List.Elements.{Contains-get_or}
use Rattle.digraph.specs.declared.edge.Edge.{Edge}
use Rattle.digraph.specs.Edges.{predecessors}
use Rattle.digraph.specs.Marks.{edge_at, lists, missing_item}
use Rattle.digraph.proofs.ByNode.{rows_more}
use Rattle.digraph.proofs.adjacency.predecessor_lists.Goals as goal

pub add_predecessor-requires : goal.add_predecessor-requires
add_predecessor-requires c =
    let edges = c.args.edges.now in
    let k = c.loop-edge.edge-index in
    let b = c.requires.between (edge_at edges k) (Contains-get_or edges k missing_item c.loop-edge-test.true) in
    let l : (edge_at edges k).to < c.args.nodes = b.1 in
    let size : vec_len c.loop-edge.rows ≡ c.args.nodes = c.loop-edge.invariant.0 in
    omega arith

pub loop-edge-preserved : goal.loop-edge-preserved
loop-edge-preserved c =
    let edges = c.args.edges.now in
    let k = c.loop-edge.edge-index in
    let old = c.loop-edge.rows.items in
    let b = c.requires.between (edge_at edges k) (Contains-get_or edges k missing_item c.loop-edge-test.true) in
    let l : (edge_at edges k).to < c.args.nodes = b.1 in
    let size : vec_len c.loop-edge.rows ≡ c.args.nodes = c.loop-edge.invariant.0 in
    let ok = c.loop-edge.rows.ok.0 in
    let len : length (lists old) ≡ length old = length-map old (λ v. v.items) in
    (c.in_ok-add_predecessor.ensures.size ∙ size, rows_more edges (lists old) (lists c.add_predecessor.new.predecessors.items) k c.loop-edge-test.true (omega arith) c.loop-edge.invariant.1 c.in_ok-add_predecessor.ensures.rows)

pub returns-clause-size : goal.returns-clause-size
returns-clause-size c = c.loop-edge.invariant.0

pub returns-clause-rows : goal.returns-clause-rows
returns-clause-rows c v =
    c.loop-edge.invariant.1 v ∙ ap (λ (es : List Edge). predecessors es v) (take_all c.loop-edge.edge-index c.args.edges.now c.loop-edge-test.false)
