use Rattle.cut_solve.proofs.workers.find_event_or_flag.Goals as goal

pub returns-in-Try-clause-some : goal.returns-in-Try-clause-some
returns-in-Try-clause-some g c = c.look.ensures.event c.in-Try.event c.in-Try.is
