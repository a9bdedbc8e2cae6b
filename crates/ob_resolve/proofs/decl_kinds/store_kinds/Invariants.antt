use Rattle.ob_resolve.specs.StoredKinds.{AreStoredKinds}
use Rattle.ob_resolve.proofs.decl_kinds.store_kinds.Given as goal

abbrev pub invariant-loop-row : goal.invariant-loop-row
invariant-loop-row l = AreStoredKinds l.view l.decl_kinds
