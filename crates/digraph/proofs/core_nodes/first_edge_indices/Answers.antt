-- The edges, from the last to the first.
use Rattle.std.proofs.Common.{◌≡◌, ◌-◌, ◌<◌, ◌∙◌, length, arith}
use Rattle.std.proofs.lemmas.List.{length-set}
use Rattle.std.proofs.lemmas.List.Elements.{Contains-get_or}
use Rattle.digraph.specs.Marks.{edge_at, missing_item}
use Rattle.digraph.proofs.Settling.{above_more, starts_more}
use Rattle.digraph.proofs.core_nodes.first_edge_indices.Goals as goal

pub index_mut-requires : goal.index_mut-requires
index_mut-requires c =
    let edges = c.args.edges.now in
    let p = c.loop-place.place - 1 in
    let inside : p < length edges = omega arith in
    let b = c.requires.between (edge_at edges p) (Contains-get_or edges p missing_item inside) in
    let l : (edge_at edges p).from < c.args.nodes = b.0 in
    let ok = c.loop-place.places.ok in
    let size : length c.loop-place.places.items ≡ c.args.nodes = c.loop-place.invariant.size in
    omega arith

pub loop-place-preserved : goal.loop-place-preserved
loop-place-preserved c =
    let edges = c.args.edges.now in
    let places = c.loop-place.places.items in
    let p = c.loop-place.place - 1 in
    let inside : p < length edges = omega arith in
    let b = c.requires.between (edge_at edges p) (Contains-get_or edges p missing_item inside) in
    let l : (edge_at edges p).from < c.args.nodes = b.0 in
    let size : length places ≡ c.args.nodes = c.loop-place.invariant.size in
    record {
      size = length-set places (edge_at edges p).from p ∙ size;
      starts = starts_more edges c.args.nodes places p c.requires.ascending inside c.loop-place.invariant.starts;
      above = above_more edges places p inside (omega arith) (λ k le in_list. c.loop-place.invariant.above k (omega arith) in_list);
    }
