use Rattle.std.proofs.Common.{◌≡◌, map, take}
use Rattle.std.specs.Prelude.{All}
use Rattle.ob_imports.specs.Names.{texts}
use Rattle.ob_imports.specs.Numbering.{IsNumbered}
use Rattle.ob_imports.proofs.order.number_names.Given as goal

abbrev pub invariant-loop-number : goal.invariant-loop-number
invariant-loop-number l = record {
  names : map (λ p. p.0.now) l.pairs.items ≡ texts (take l.number l.names);
  numbers : All (IsNumbered (texts l.names)) l.pairs.items;
}
