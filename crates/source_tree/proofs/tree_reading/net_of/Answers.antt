use Rattle.source_tree.proofs.tree_reading.net_of.Goals as goal

pub network_of_tree-requires : goal.network_of_tree-requires
network_of_tree-requires g c = (c.args.sources.now, rw c.deref.ensures c.in_ok-tree.ensures.tree)

pub returns-clause-net : goal.returns-clause-net
returns-clause-net g c = c.in_ok-network_of_tree.ensures.net c.args.sources.now (rw c.deref.ensures c.in_ok-tree.ensures.tree)
