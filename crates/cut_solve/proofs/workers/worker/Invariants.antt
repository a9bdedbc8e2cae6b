use Rattle.std.proofs.Common.{◌≤◌}
use Rattle.cut_solve.proofs.workers.worker.Given as goal

abbrev pub invariant-loop : goal.invariant-loop
invariant-loop g l =
    (goal.iterator-loop g).can_next l.iterator' × (goal.iterator-loop g).is_finite l.iterator' × (l.initial.share.count ≤ l.share.count)
