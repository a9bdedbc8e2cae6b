-- The queue, node by node.
use Rattle.std.proofs.Common.{◌≡◌, ℕ, ◌<◌, ◌+◌, ◌∙◌, ◌++◌, [], List, Option, None, length, length-append, get_or, replicate, refl, sym, ap, subst, arith}
use Rattle.std.specs.Prelude.{All, AllPairs, vec_len}
use Rattle.std.proofs.lemmas.List.Elements.{Contains-get_or}
use Rattle.digraph.specs.Edges.{successors}
use Rattle.digraph.specs.Search.{AreDiscovered}
use Rattle.digraph.proofs.Searching.{next_read, search_all, searching_more, searching_starts, IsSearching}
use Rattle.digraph.proofs.Successors.{row_is, successor, successors_ascend}
use Rattle.digraph.proofs.Walks.{none_cloned}
use Rattle.digraph.proofs.graph.Graph.search_from.Goals as goal

pub nodes-init : goal.nodes-init
nodes-init c =
    let nodes = length c.args.self.now.after.items in
    let size : c.len.result ≡ nodes = (let ok = c.args.self.now.after.ok in let len = c.len.ensures in omega arith) in
    let parents : c.in_ok-parents.parents.items ≡ replicate nodes None =
    none_cloned c.in_ok-parents.parents.items c.len.result _ c.in_ok-parents.ensures.items_if_clones_equal (λ x h. h) ∙ ap (λ (n : ℕ). replicate n None) size in
    let (found, queued, are) = c.in_ok-discover_nodes.ensures in
    let queue : c.discover_nodes.new.queue.items ≡ found = queued ∙ ap (λ (q : List ℕ). q ++ found) c.new-queue.ensures.items in
    record {
      within = omega arith;
      searching = subst (λ (q : List ℕ). IsSearching c.args.self.now.edges.now c.args.starts.now c.args.barrier.now nodes c.discover_nodes.new.parents.items q 0) (sym queue)
          (searching_starts c.args.self.now.edges.now c.args.starts.now c.args.barrier.now nodes c.discover_nodes.new.parents.items found
          (subst (λ (ps : List (Option ℕ)). AreDiscovered c.args.starts.now [] (λ v. v) ps c.discover_nodes.new.parents.items found) parents are));
    }

pub index-requires : goal.index-requires
index-requires c =
    let graph = c.args.self.now in
    let edges = graph.edges.now in
    let nodes = length graph.after.items in
    let queue = c.nodes.queue.items in
    let node = c.index-node.result.now in
    let lt : c.nodes.next < length queue = (let ok = c.nodes.queue.ok in let len = c.len-in-nodes.ensures in let more = c.nodes-test.true in omega arith) in
    let (read, low) = next_read edges c.args.starts.now c.args.barrier.now nodes c.nodes.parents.items queue c.nodes.next c.nodes.invariant.searching node lt c.index-node.ensures in
    let ok = graph.after.ok in
    omega arith

pub discover_nodes-requires-in-nodes-clause-within : goal.discover_nodes-requires-in-nodes-clause-within
discover_nodes-requires-in-nodes-clause-within c =
    let graph = c.args.self.now in
    let edges = graph.edges.now in
    let nodes = length graph.after.items in
    let queue = c.nodes.queue.items in
    let node = c.index-node.result.now in
    let lt : c.nodes.next < length queue = (let ok = c.nodes.queue.ok in let len = c.len-in-nodes.ensures in let more = c.nodes-test.true in omega arith) in
    let (read, low) = next_read edges c.args.starts.now c.args.barrier.now nodes c.nodes.parents.items queue c.nodes.next c.nodes.invariant.searching node lt c.index-node.ensures in
    let row = row_is edges graph.after.items node c.index.result.now c.as_slice-successors.result.now c.as_slice-successors.ensures.value c.index.ensures low (c.requires.graph.after node) in
    subst (All (λ v. v < vec_len c.nodes.parents)) (sym row) (λ k d within.
    let own = (successor edges node (get_or (successors edges node) k d)).0 (Contains-get_or (successors edges node) k d within) in
    let to = (c.requires.graph.between (record { from = node; to = get_or (successors edges node) k d }) own).1 in
    let size = c.nodes.invariant.searching.has.size in
    let ok = c.nodes.parents.ok in
    omega arith)

pub discover_nodes-requires-in-nodes-clause-ascending : goal.discover_nodes-requires-in-nodes-clause-ascending
discover_nodes-requires-in-nodes-clause-ascending c =
    let graph = c.args.self.now in
    let edges = graph.edges.now in
    let nodes = length graph.after.items in
    let queue = c.nodes.queue.items in
    let node = c.index-node.result.now in
    let lt : c.nodes.next < length queue = (let ok = c.nodes.queue.ok in let len = c.len-in-nodes.ensures in let more = c.nodes-test.true in omega arith) in
    let (read, low) = next_read edges c.args.starts.now c.args.barrier.now nodes c.nodes.parents.items queue c.nodes.next c.nodes.invariant.searching node lt c.index-node.ensures in
    let row = row_is edges graph.after.items node c.index.result.now c.as_slice-successors.result.now c.as_slice-successors.ensures.value c.index.ensures low (c.requires.graph.after node) in
    subst (AllPairs (λ v w. v < w)) (sym row) (successors_ascend edges node c.requires.graph.ascending)

pub nodes-preserved : goal.nodes-preserved
nodes-preserved c =
    let graph = c.args.self.now in
    let edges = graph.edges.now in
    let nodes = length graph.after.items in
    let queue = c.nodes.queue.items in
    let node = c.index-node.result.now in
    let lt : c.nodes.next < length queue = (let ok = c.nodes.queue.ok in let len = c.len-in-nodes.ensures in let more = c.nodes-test.true in omega arith) in
    let (read, low) = next_read edges c.args.starts.now c.args.barrier.now nodes c.nodes.parents.items queue c.nodes.next c.nodes.invariant.searching node lt c.index-node.ensures in
    let row = row_is edges graph.after.items node c.index.result.now c.as_slice-successors.result.now c.as_slice-successors.ensures.value c.index.ensures low (c.requires.graph.after node) in
    let s = c.nodes.invariant.searching in
    let old = c.nodes.parents.items in
    let new = c.discover_nodes-in-nodes.new.parents.items in
    let barrier = c.args.barrier.now in
    let (found, queued, are) = c.in_ok-discover_nodes-2.ensures in
    let own : AreDiscovered (successors edges (get_or queue c.nodes.next 0)) barrier (λ _. get_or queue c.nodes.next 0) old new found =
    subst (λ (n : ℕ). AreDiscovered (successors edges n) barrier (λ _. n) old new found) read
    (subst (λ (ns : List ℕ). AreDiscovered ns barrier (λ _. node) old new found) row are) in
    let size = ap length queued ∙ length-append queue found in
    record {
      within = omega arith;
      searching = subst (λ (q : List ℕ). IsSearching edges c.args.starts.now barrier nodes new q (c.nodes.next + 1)) (sym queued)
          (searching_more edges c.args.starts.now barrier nodes old queue c.nodes.next s.path s.has new found own lt);
    }

pub returns : goal.returns
returns c =
    let s = c.nodes.invariant.searching in
    search_all c.args.self.now.edges.now c.args.starts.now c.args.barrier.now (length c.args.self.now.after.items) c.nodes.parents.items c.nodes.queue.items c.nodes.next s.path s.has
    (let ok = c.nodes.queue.ok in let len = c.len-in-nodes.ensures in let past = c.nodes-test.false in omega arith)
    c.nodes.invariant.within (record { parents = c.nodes.parents }) refl
