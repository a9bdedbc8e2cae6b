use Rattle.cut_rules.specs.Builders.{AreEmptySets}
use Rattle.cut_rules.proofs.table.empty_sets.Given as goal

abbrev pub invariant-loop : goal.invariant-loop
invariant-loop l = AreEmptySets l.counter l.places l.sets.items
