use Rattle.ob_resolve.proofs.Referring.{AreGone}
use Rattle.ob_resolve.proofs.refs.resolve_identifiers.Given as goal

abbrev pub invariant-loop-position : goal.invariant-loop-position
invariant-loop-position l = AreGone l.view l.position l.rows.items
