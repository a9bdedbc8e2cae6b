use Rattle.cut_check.specs.Sums.{AreWithin}
use Rattle.cut_check.proofs.flow.first_over_weight.Given as goal

abbrev pub invariant-loop-k : goal.invariant-loop-k
invariant-loop-k l = AreWithin l.net l.amounts l.k
