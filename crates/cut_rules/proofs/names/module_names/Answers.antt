use Rattle.std.proofs.Common.{◌∙◌}
use Rattle.cut_rules.proofs.NameLaws.{module_added}
use Rattle.cut_rules.proofs.names.module_names.Goals as goal

pub loop-node-preserved : goal.loop-node-preserved
loop-node-preserved c =
    let nodes = c.nodes-node-end.ensures in
    module_added c.args.net.now c.invariants.ensures.network c.loop-node.node (rw nodes at c.loop-node-test.true) c.loop-node.names.keys c.insert.new.self.keys (record { bytes = c.as_bytes-bytes.result }) (c.as_bytes-bytes.ensures.value ∙ c.name.ensures) c.in_ok-insert.ensures.keys c.loop-node.invariant
