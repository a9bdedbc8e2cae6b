use Rattle.std.proofs.Common.{length, ap, replicate, false, ◌∙◌, arith}
use Rattle.std.proofs.lemmas.List.FromFn.{length-range_with_len}
use Rattle.cut_preflow.proofs.Exchanging.{numbers_arranged, none_marked}
use Rattle.cut_preflow.proofs.node_set.NodeSet.new.Goals as goal

pub invariant_of-result : goal.invariant_of-result
invariant_of-result c =
    rw (c.in_ok-ascending_nodes.ensures, c.in_ok-ascending_nodes-2.ensures) (numbers_arranged c.args.nodes (omega (arith, c.ranges.nodes)))

pub returns : goal.returns
returns c =
    let position = c.in_ok-ascending_nodes-2.field-0.items in
    none_marked position ∙ ap (λ n. replicate n false) (ap length c.in_ok-ascending_nodes-2.ensures ∙ length-range_with_len 0 c.args.nodes)
