-- The path, node by node from its end to its start.
use Rattle.std.proofs.Common.{ℕ, ◌<◌, ◌++◌, ◌∷◌, [], List, Option, sym, subst}
use Rattle.digraph.proofs.GoingUp.{goes_up_more, steps_fewer, steps_left, GoesUp}
use Rattle.digraph.proofs.search.Search.path_to.Goals as goal

pub nodes-smaller : goal.nodes-smaller
nodes-smaller c =
    let (edges, starts, barrier, is) = c.requires.search in
    let parents = c.args.self.now.parents.items in
    let path = c.nodes.path.items in
    let at = c.in-Some.at in
    let next = c.predecessor-next.result in
    let up = subst (GoesUp edges starts barrier c.args.self.now c.args.node path) c.in-Some.is (c.nodes.invariant edges starts barrier is) in
    let less = steps_fewer edges starts barrier c.args.self.now is c.args.node path at up next in
    subst (λ (p : List ℕ). steps_left parents p next < steps_left parents path c.nodes.next) (sym c.in_ok-push.ensures.items)
    (subst (λ (o : Option ℕ). steps_left parents (path ++ at ∷ []) next < steps_left parents path o) (sym c.in-Some.is) less)

pub nodes-preserved : goal.nodes-preserved
nodes-preserved c = λ edges starts barrier is.
    subst (λ (p : List ℕ). GoesUp edges starts barrier c.args.self.now c.args.node p c.predecessor-next.result) (sym c.in_ok-push.ensures.items)
    (goes_up_more edges starts barrier c.args.self.now is c.args.node c.nodes.path.items c.in-Some.at
    (subst (GoesUp edges starts barrier c.args.self.now c.args.node c.nodes.path.items) c.in-Some.is (c.nodes.invariant edges starts barrier is)) c.predecessor-next.result c.predecessor-next.ensures)
