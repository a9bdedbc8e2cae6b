use Rattle.ob_emit.proofs.SeenPaths.{imported_symbol_equals_declared}
use Rattle.ob_emit.proofs.laws.imported_symbol_equals_declared.Goals as goal

pub returns : goal.returns
returns c = imported_symbol_equals_declared
