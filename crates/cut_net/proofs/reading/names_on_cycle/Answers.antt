use Rattle.cut_net.proofs.reading.names_on_cycle.Goals as goal

pub names_of_nodes-requires : goal.names_of_nodes-requires
names_of_nodes-requires c =
    let within = rw c.in-Some.is at c.in_ok-find_canonical_cycle.ensures.within in
    rw c.as_slice.ensures.value within
