use Rattle.std.proofs.Common.{◌<◌, ℕ, List, length, arith, subst}
use Rattle.std.proofs.lemmas.List.{take_all}
use Rattle.cut_rules.specs.Judged.{IsFlagSet}
use Rattle.cut_rules.proofs.NodeMarks.{mark_next}
use Rattle.cut_rules.proofs.rule_search.set_flags.Goals as goal

pub loop-node-preserved : goal.loop-node-preserved
loop-node-preserved c =
    let nodes = c.args.nodes.now in
    let k = c.loop-node.node-index in
    let size = c.loop-node.invariant.size in
    let lt : k < length nodes = c.loop-node-test.true in
    let low = c.requires k 0 lt in
    let many = c.loop-node.flags.ok in
    record {
      size = c.loop-node.invariant.size;
      flags = mark_next nodes k 0 c.args.value c.args.flags.now.items c.loop-node.flags.items lt (omega arith) c.loop-node.invariant.flags;
    }

pub returns-clause-flags : goal.returns-clause-flags
returns-clause-flags c =
    let past = c.loop-node-test.false in
    λ v. subst (λ (l : List ℕ). IsFlagSet l c.args.value c.args.flags.now.items c.loop-node.flags.items v) (take_all c.loop-node.node-index c.args.nodes.now (omega arith)) (c.loop-node.invariant.flags v)
