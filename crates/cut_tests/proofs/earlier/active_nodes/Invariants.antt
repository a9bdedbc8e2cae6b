use Rattle.std.proofs.Common.{◌<◌, length}
use Rattle.std.specs.Prelude.{All}
use Rattle.cut_tests.proofs.earlier.active_nodes.Given as goal

abbrev pub invariant-loop-back : goal.invariant-loop-back
invariant-loop-back l = All (λ n. n < length l.excesses) l.found.items
