-- The worklist is processed until it is empty.
use Rattle.std.proofs.Common.{◌≡◌, ℕ, [], ◌∷◌, List, length, refl, sym, ap, ◌∙◌, subst, arith, rules}
use Rattle.std.proofs.lemmas.List.{get_or_default}
use Rattle.digraph.specs.declared.edge.Edge.{Edge}
use Rattle.digraph.specs.Edges.{AreBetween}
use Rattle.digraph.specs.Incoming.{AreIncoming}
use Rattle.digraph.specs.Marks.{edge_at, missing_item, IsPruning}
use Rattle.digraph.proofs.FewEdges.{few_edges}
use Rattle.digraph.proofs.core_nodes.CycleCore.prune.Goals as goal

empty : (xs : List ℕ) → length xs ≡ 0 → xs ≡ []
empty [] e = refl
empty (x ∷ xs) e = absurd (omega arith)

pub link_by_key-requires-clause-few : goal.link_by_key-requires-clause-few
link_by_key-requires-clause-few c =
    let few = few_edges c.args.edges.now c.args.nodes c.requires.between c.requires.few_nodes c.requires.ascending in
    omega arith

pub link_by_key-requires-clause-known : goal.link_by_key-requires-clause-known
link_by_key-requires-clause-known c x list has gives =
    let low = (c.requires.between x has).1 in
    let is : list ≡ x.to = search rules in
    omega arith

pub loop-node-init : goal.loop-node-init
loop-node-init c = c.requires.begun c.in_ok-again.again.items c.in_ok-again.ensures

pub recheck_node-requires-clause-ascending : goal.recheck_node-requires-clause-ascending
recheck_node-requires-clause-ascending c = c.requires.ascending

pub recheck_node-requires-clause-between : goal.recheck_node-requires-clause-between
recheck_node-requires-clause-between c =
    let ok = c.loop-node.self.marks.ok in
    let size = c.loop-node.invariant.size in
    let len : c.args.nodes ≡ c.loop-node.self.marks.len = omega arith in
    subst (λ (n : ℕ). AreBetween c.args.edges.now n) len c.requires.between

pub recheck_node-requires-clause-incoming : goal.recheck_node-requires-clause-incoming
recheck_node-requires-clause-incoming c =
    let ok = c.loop-node.self.marks.ok in
    let size = c.loop-node.invariant.size in
    let len : c.args.nodes ≡ c.loop-node.self.marks.len = omega arith in
    let a = c.in_ok-incoming.incoming in
    let edges = c.args.edges.now in
    let list_count = c.in_ok-incoming.ensures (λ k. (edge_at edges k).to) (λ k x list l here gives.
    let is : list ≡ x.to = search rules in
    is ∙ ap (λ (p : Edge). p.to) (sym (get_or_default edges k missing_item x l ∙ here))) in
    subst (λ (n : ℕ). AreIncoming c.args.edges.now n a.last.items a.before.items (length c.args.edges.now)) len list_count

pub loop-node-preserved : goal.loop-node-preserved
loop-node-preserved c =
    let ok = c.loop-node.self.marks.ok in
    let size = c.loop-node.invariant.size in
    let len : c.args.nodes ≡ c.loop-node.self.marks.len = omega arith in
    subst (λ (n : ℕ). IsPruning c.args.edges.now n c.recheck_node.new.self.marks.items c.recheck_node.new.self.places.items c.recheck_node.new.again.items) (sym len) c.in_ok-recheck_node.ensures.settling

pub returns : goal.returns
returns c =
    let at = c.loop-node in
    let none = rw c.in_default.is at c.pop.ensures.cases in
    let items : at.again.items ≡ [] = (let ok = at.again.ok in empty at.again.items (omega arith)) in
    subst (λ (a : List ℕ). IsPruning c.args.edges.now c.args.nodes at.self.marks.items at.self.places.items a) items at.invariant
