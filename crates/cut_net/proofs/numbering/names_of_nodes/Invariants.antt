use Rattle.std.proofs.Common.{◌≡◌, [], get_or, map, take}
use Rattle.cut_net.specs.Network.{texts}
use Rattle.cut_net.proofs.numbering.names_of_nodes.Given as goal

abbrev pub invariant-loop-node : goal.invariant-loop-node
invariant-loop-node l = texts l.named.items ≡ map (λ m. get_or (texts l.names) m []) (take l.node-index l.nodes)
