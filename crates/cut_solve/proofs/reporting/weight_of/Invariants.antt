use Rattle.std.proofs.Common.{◌≡◌, take, sum_by}
use Rattle.cut_net.specs.declared.priced.Priced.{Priced}
use Rattle.cut_solve.proofs.reporting.weight_of.Given as goal

abbrev pub invariant-loop-i : goal.invariant-loop-i
invariant-loop-i l = l.weight ≡ sum_by (λ (i : Priced). i.amount) (take l.i-index l.imports)
