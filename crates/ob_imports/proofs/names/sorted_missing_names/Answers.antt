-- Sorting keeps the missing names.
use Rattle.ob_imports.proofs.names.sorted_missing_names.Goals as goal

pub returns-clause-same : goal.returns-clause-same
returns-clause-same c n = rw c.in_ok-others.ensures at (c.sort_and_dedup.ensures.same n)
