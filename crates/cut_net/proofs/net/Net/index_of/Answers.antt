use Rattle.digraph.proofs.Ordered.{sorted_strings}
use Rattle.cut_net.proofs.net.Net.index_of.Goals as goal

pub name_index-requires : goal.name_index-requires
name_index-requires c = rw c.as_slice.ensures.value (sorted_strings c.self.inside.names.items c.self.invariant.0.names_ascend)
