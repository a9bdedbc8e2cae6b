use Rattle.ob_imports.proofs.SomeCycle.{acyclic_or_has_cycle}
use Rattle.ob_imports.proofs.laws.acyclic_or_has_cycle.Goals as goal

pub returns : goal.returns
returns c = acyclic_or_has_cycle
