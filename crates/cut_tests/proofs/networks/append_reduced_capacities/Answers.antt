use Rattle.cut_tests.proofs.networks.append_reduced_capacities.Goals as goal

pub reduced_capacities-requires-clause-between : goal.reduced_capacities-requires-clause-between
reduced_capacities-requires-clause-between c = rw (c.imports-imports.ensures, c.nodes-2.ensures) c.invariants.ensures.network.between
