use Rattle.std.proofs.Common.{ℕ, ◌≡◌, ◌≤◌, ◌<◌, Bool, get_or, None, take, sum_by}
use Rattle.std.specs.Prelude.{IfSome}
use Rattle.cut_net.specs.declared.priced.Priced.{Priced}
use Rattle.cut_net.specs.Cuts.{weight}
use Rattle.cut_check.specs.Sums.{HaveAmounts}
use Rattle.cut_check.proofs.weights.is_total_of_weights.Given as goal

abbrev pub invariant-loop-k : goal.invariant-loop-k
invariant-loop-k l = record {
  most : l.sum ≤ sum_by (λ i. i.amount) (take l.k l.imports);
  each : (j : ℕ) (d : Priced) → j < l.k → IfSome (get_or l.amounts j None) (λ x. x ≡ (get_or l.imports j d).amount);
  sum_is : (x : Priced → Bool) → HaveAmounts l.imports x l.amounts → l.sum ≡ weight (take l.k l.imports) x;
}
