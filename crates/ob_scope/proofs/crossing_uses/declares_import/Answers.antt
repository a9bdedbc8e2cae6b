use Rattle.std.proofs.Common.{arith}
use Rattle.std.proofs.lemmas.Grind.{elements}
use Rattle.ob_scope.proofs.crossing_uses.declares_import.Goals as goal

pub offset_bounds-members-at : goal.offset_bounds-members-at
offset_bounds-members-at c = grind (arith, elements)

pub bounds-members-at : goal.bounds-members-at
bounds-members-at c = grind (arith, elements)

pub returns-in-Some-clause-yes : goal.returns-in-Some-clause-yes
returns-in-Some-clause-yes c = grind (arith, elements)

pub returns-in-Some-clause-no : goal.returns-in-Some-clause-no
returns-in-Some-clause-no c = grind (arith, elements)

pub returns-in-None-clause-no : goal.returns-in-None-clause-no
returns-in-None-clause-no c = grind (arith, elements)
