use Rattle.board_workers.proofs.Wholes.{fewer_missing}
use Rattle.board_workers.proofs.single_thread.deliver_next.Goals as goal

pub returns-in_ok-entry-in-Some-clause-more : goal.returns-in_ok-entry-in-Some-clause-more
returns-in_ok-entry-in-Some-clause-more g c = λ is_so.
    let held = rw c.in-Some.is at c.in_ok-number.ensures.claimed in
    rw (c.store_entry.ensures, held.claimed) (fewer_missing c.args.board.now.entries c.in-Some.number c.in_ok-entry-in-Some.entry held.within held.missing)
