-- Equations for the steps of reading statements.
use Rattle.std.proofs.lemmas.List.{append-nil}
use Rattle.ob_tree.proofs.StatementLayers.{statements_made}

pub ruleset made = (statements_made, append-nil)
