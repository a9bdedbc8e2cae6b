use Rattle.std.proofs.Common.{◌≡◌, map, take}
use Rattle.cut_net.specs.Network.{texts}
use Rattle.ob_imports.specs.Graphs.{name_of}
use Rattle.source_tree.proofs.from_graph.node_names.Given as goal

abbrev pub invariant-loop-node : goal.invariant-loop-node
invariant-loop-node l = texts l.names.items ≡ map (name_of l.graph) (take l.node-index l.nodes)
