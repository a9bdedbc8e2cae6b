-- Bounds for the scopes that declare a name, by the scopes' first tokens.
use Rattle.std.specs.Prelude.{◌<◌}
use Rattle.ob_scope.specs.declared.distinct.StartBounds.{StartBounds}
use Rattle.scopes.specs.declared.members.Scope.{Scope}
use Rattle.scopes.specs.declared.members.Scope.TheVariants.{Block, Record}

-- the scope starts before the bound for its kind, so it may be one of the scopes that have declared the name already
abbrev pub IsBelowBound : StartBounds → Scope → Type 0
IsBelowBound p (Block b) = b < p.block
IsBelowBound p (Record r) = r < p.record
