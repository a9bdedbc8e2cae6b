use Rattle.std.proofs.Common.{ℕ, ◌≡◌, ◌≢◌, ◌<◌, get_or}
use Rattle.cut_check.proofs.flow.Sums.first_unbalanced.Given as goal

abbrev pub invariant-loop-m : goal.invariant-loop-m
invariant-loop-m l = (n : ℕ) → n < l.m → n ≢ l.from → n ≢ l.to → get_or l.self.into.items n 0 ≡ get_or l.self.out.items n 0
