use Rattle.ob_scan.proofs.Places.{spelled_in_text}
use Rattle.source_tree.proofs.module_scopes.scopes.Goals as goal

pub scopes_from-requires-clause-in_text : goal.scopes_from-requires-clause-in_text
scopes_from-requires-clause-in_text c = rw c.as_slice.ensures (spelled_in_text c.args.bytes.now c.args.tokens.now c.requires.spelled.1)

pub scopes_from-requires-clause-rows : goal.scopes_from-requires-clause-rows
scopes_from-requires-clause-rows c = rw c.as_slice.ensures c.in-Ok.ensures.rows
