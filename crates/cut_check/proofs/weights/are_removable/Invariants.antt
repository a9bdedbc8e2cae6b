use Rattle.std.proofs.Common.{ℕ, ◌≡◌, ◌<◌, true, false, get_or, None}
use Rattle.std.specs.Prelude.{is_some}
use Rattle.cut_net.specs.declared.priced.Priced.{Priced}
use Rattle.cut_net.specs.Pins.{is_pinned}
use Rattle.cut_check.proofs.weights.are_removable.Given as goal

abbrev pub invariant-loop-k : goal.invariant-loop-k
invariant-loop-k l = (j : ℕ) (d : Priced) → j < l.k → is_some (get_or l.amounts j None) ≡ true → is_pinned l.net (get_or l.net.imports j d) ≡ false
