use Rattle.std.proofs.Common.{◌≡◌, ◌∙◌, ◌++◌, ◌∷◌, [], ℕ, List, ap, subst, arith}
use Rattle.std.proofs.lemmas.List.{nil_from_length}
use Rattle.residual_graph.specs.Spreading.{IsSpreading}
use Rattle.residual_graph.proofs.Following.{last_low, spread_closed, spread_reached, spreading_starts}
use Rattle.residual_graph.proofs.spread.flag_reachable.Goals as goal
use Rattle.residual_graph.proofs.spread.flag_reachable.Goals.{In-Some}

pub loop-node-init : goal.loop-node-init
loop-node-init c =
    let placed : c.push.new.self.items ≡ c.args.start ∷ [] = c.in_ok-push.ensures.items ∙ ap (λ (v : List ℕ). v ++ c.args.start ∷ []) c.new-waiting.ensures.items in
    record {
      size = c.in_ok-reached_flags.ensures.len;
      spreading = rw (placed, c.in_ok-reached_flags.ensures.items_if_clones_equal (λ y same. same)) (spreading_starts c.args.arcs.now c.args.start c.args.nodes c.requires.start);
    }

popped : (c : In-Some) → c.loop-node.waiting.items ≡ c.pop.new.self.items ++ c.in-Some.node ∷ []
popped c = rw c.in-Some.is at c.pop.ensures.items

pub flag_heads-requires-clause-node : goal.flag_heads-requires-clause-node
flag_heads-requires-clause-node c =
    let ok = c.loop-node.reached_flags.ok.0 in
    let within = last_low c.loop-node.reached_flags.items c.loop-node.waiting.items c.pop.new.self.items c.in-Some.node c.loop-node.invariant.spreading.spread.waits (popped (goal.at.flag_heads-requires-clause-node c).In-Some) in
    omega arith

pub loop-node-preserved : goal.loop-node-preserved
loop-node-preserved c = record {
  size = c.in_ok-flag_heads.ensures.size ∙ c.loop-node.invariant.size;
  spreading = c.in_ok-flag_heads.ensures.spreading c.args.start (subst (IsSpreading c.args.arcs.now c.args.start c.loop-node.reached_flags.items) (popped (goal.at.loop-node-preserved c).In-Some) c.loop-node.invariant.spreading);
}

pub returns : goal.returns
returns c =
    let none = rw c.in_default.is at c.pop.ensures.cases in
    let ok = c.loop-node.waiting.ok.0 in
    let flag_reachable = c.loop-node.reached_flags.ok.0 in
    let size = c.loop-node.invariant.size in
    let empty : c.loop-node.waiting.items ≡ [] = nil_from_length _ (omega arith) in
    let done = subst (IsSpreading c.args.arcs.now c.args.start c.loop-node.reached_flags.items) empty c.loop-node.invariant.spreading in
    record {
      reached = spread_reached c.args.arcs.now c.args.start c.loop-node.reached_flags.items done c.args.nodes (omega arith);
      closed = spread_closed c.args.arcs.now c.args.start c.loop-node.reached_flags.items done;
    }
