use Rattle.std.proofs.Common.{◌≡◌, map, take}
use Rattle.ob_imports.proofs.order.pair_numbers.Given as goal

abbrev pub invariant-loop-pair : goal.invariant-loop-pair
invariant-loop-pair l = l.numbers.items ≡ map (λ p. p.1) (take l.pair-index l.pairs)
