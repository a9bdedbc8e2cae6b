use Rattle.std.proofs.Common.{◌<◌, Some}
use Rattle.std.proofs.lemmas.List.Elements.{All-pop, All-push}
use Rattle.residual_graph.proofs.order.topological_order.Goals as goal

pub remove_node-requires-clause-node : goal.remove_node-requires-clause-node
remove_node-requires-clause-node c = (All-pop (λ n. n < c.args.graph.now.nodes) _ _ (Some c.in-Some.node) c.in-Some.ensures.items c.loop.invariant.free).1

pub remove_node-requires-clause-free : goal.remove_node-requires-clause-free
remove_node-requires-clause-free c = (All-pop (λ n. n < c.args.graph.now.nodes) _ _ (Some c.in-Some.node) c.in-Some.ensures.items c.loop.invariant.free).0

pub loop-preserved : goal.loop-preserved
loop-preserved c =
    let node = (All-pop (λ n. n < c.args.graph.now.nodes) _ _ (Some c.in-Some.node) c.in-Some.ensures.items c.loop.invariant.free).1 in
    record {
      counts = c.in_ok-remove_node.ensures.counts;
      free = c.in_ok-remove_node.ensures.free;
      order = rw c.in_ok-push.ensures.items (All-push (λ n. n < c.args.graph.now.nodes) c.loop.order.items c.in-Some.node c.loop.invariant.order node);
    }

pub returns-in_default : goal.returns-in_default
returns-in_default c = c.loop.invariant.order

pub returns : goal.returns
returns c = c.loop.invariant.order
