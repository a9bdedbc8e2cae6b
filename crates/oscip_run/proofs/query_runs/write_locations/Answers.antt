use Rattle.oscip_run.proofs.query_runs.write_locations.Goals as goal

pub returns-in-Named-clause-run : goal.returns-in-Named-clause-run
returns-in-Named-clause-run g c = rw c.in-Named.is (rw (c.as_deref.ensures.value, c.as_str-in-Named.ensures.value, c.which_of-which.ensures) at c.query_symbol.ensures.run)
