-- The nodes that the search reached, except the start, one after another.
use Rattle.std.proofs.Common.{◌≡◌, ◌<◌, ℕ, ◌+◌, ◌∙◌, ◌∷◌, [], List, true, false, sym, ap, subst, arith}
use Rattle.std.specs.Prelude.{All}
use Rattle.std.specs.Global.{Vec}
use Rattle.digraph.specs.declared.edge.Edge.{Edge}
use Rattle.digraph.specs.Search.{IsSearch}
use Rattle.cut_report.proofs.Reached.{all_below, below_and, below_without, reaches_all, AreThoseBelow, IsOther}
use Rattle.cut_report.proofs.reach.reachable_nodes.Goals.{then-node-start+then-has_reached+in_ok-push, else-node-start, else-node-start-via-then-node-start+else-has_reached, else-node-start-via-else-node-start}
use Rattle.cut_report.proofs.reach.reachable_nodes.Goals as goal

pub loop-node-preserved : goal.loop-node-preserved
loop-node-preserved c =
    let edges = c.args.edges.now in
    let start = c.args.start in
    let node = c.loop-node.node in
    let old = c.loop-node.reached.items in
    let items : Vec ℕ → List ℕ = λ v. v.items in
    let search = subst (λ (es : List Edge). IsSearch es (start ∷ []) [] c.in_ok-search.search) c.in_ok-graph.ensures.edges c.in_ok-search.ensures in
    elim c.if-node-start.branch [
      | then-node-start+then-has_reached+in_ok-push w ↦
          let path = (w.has_reached.ensures edges (start ∷ []) [] search).0 w.if-has_reached.true in
          subst (AreThoseBelow (IsOther edges start) (node + 1)) (sym (ap items w.reached-is ∙ w.in_ok-push.ensures.items))
          (below_and (IsOther edges start) node old c.loop-node.invariant (w.if-node-start.true, path))
      | else-node-start w ↦
          let without : IsOther edges start node → ⊥ = elim w.else-node-start.branch [
            | else-node-start-via-then-node-start+else-has_reached w' ↦ λ other.
                let bad : true ≡ false = sym ((w'.has_reached.ensures edges (start ∷ []) [] search).1 other.1) ∙ w'.if-has_reached.false in cc
            | else-node-start-via-else-node-start w' ↦ λ other. other.0 w'.if-node-start.false
          ] in
          subst (AreThoseBelow (IsOther edges start) (node + 1)) (sym (ap items w.reached-is))
          (below_without (IsOther edges start) node old c.loop-node.invariant without)
    ]

pub returns-clause-exact : goal.returns-clause-exact
returns-clause-exact c =
    let edges = c.args.edges.now in
    let last : c.loop-node.node ≡ c.args.nodes = (let end = c.loop-node.auto.node-end in let past = c.loop-node-test.false in omega arith) in
    reaches_all edges c.args.nodes c.args.start c.loop-node.reached.items c.requires.between c.requires.acyclic
    (subst (λ (bound : ℕ). AreThoseBelow (IsOther edges c.args.start) bound c.loop-node.reached.items) last c.loop-node.invariant)

pub returns-clause-within : goal.returns-clause-within
returns-clause-within c =
    let last : c.loop-node.node ≡ c.args.nodes = (let end = c.loop-node.auto.node-end in let past = c.loop-node-test.false in omega arith) in
    subst (λ (bound : ℕ). All (λ n. n < bound) c.loop-node.reached.items) last (all_below (IsOther c.args.edges.now c.args.start) c.loop-node.node c.loop-node.reached.items c.loop-node.invariant)
