-- The edges between the ranks, then sorted.
use Rattle.std.proofs.Common.{◌≡◌, ◌∙◌, ap, arith, map, subst, sym, take, take_all}
use Rattle.std.specs.Prelude.{Contains, ◌↔◌, List}
use Rattle.std.proofs.lemmas.List.{map_more}
use Rattle.std.proofs.lemmas.List.Elements.{Contains-get_or}
use Rattle.digraph.specs.declared.edge.Edge.{Edge as GraphEdge}
use Rattle.digraph.specs.Ranks.{by_ranks}
use Rattle.digraph.specs.Marks.{edge_at, missing_item}
use Rattle.digraph.proofs.ranks.renumber_edges.Goals as goal

pub bounds-ranks-edge : goal.bounds-ranks-edge
bounds-ranks-edge c =
    let edges = c.args.edges.now in
    let k = c.loop-edge.edge-index in
    (c.requires.between (edge_at edges k) (Contains-get_or edges k missing_item c.loop-edge-test.true)).0

pub bounds-ranks-edge-in-loop-edge : goal.bounds-ranks-edge-in-loop-edge
bounds-ranks-edge-in-loop-edge c =
    let edges = c.args.edges.now in
    let k = c.loop-edge.edge-index in
    (c.requires.between (edge_at edges k) (Contains-get_or edges k missing_item c.loop-edge-test.true)).1

pub returns-clause-same : goal.returns-clause-same
returns-clause-same c p =
    let edges = c.args.edges.now in
    let all : take c.loop-edge.edge-index edges ≡ edges = take_all c.loop-edge.edge-index edges (omega arith) in
    let whole : c.loop-edge.others.items ≡ map (by_ranks c.args.ranks.now) edges = c.loop-edge.invariant ∙ ap (map (by_ranks c.args.ranks.now)) all in
    subst (λ (others : List GraphEdge). Contains c.sort_and_dedup.new.edges.items p ↔ Contains others p) whole (c.sort_and_dedup.ensures.same p)

pub loop-edge-preserved : goal.loop-edge-preserved
loop-edge-preserved c =
    rw (c.in_ok-push.ensures.items, c.loop-edge.invariant) (sym (map_more (by_ranks c.args.ranks.now) c.args.edges.now c.loop-edge.edge-index missing_item c.loop-edge-test.true))

pub returns-clause-ascending : goal.returns-clause-ascending
returns-clause-ascending c = c.sort_and_dedup.ensures.ascending
