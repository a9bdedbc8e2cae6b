use Rattle.std.proofs.Common.{◌≤◌, length, drop}
use Rattle.ob_resolve.proofs.Marks.{AreMarkedFrom}
use Rattle.ob_resolve.proofs.syntax_positions.set_positions.Given as goal

abbrev pub invariant-rows : goal.invariant-rows
invariant-rows g l = record { within : l.position ≤ length l.rows; marked : AreMarkedFrom g.P.IdentifierEntry.has g.P.IdentifierEntry.at l.position (drop l.position l.rows) l.initial.positions l.positions }

abbrev pub decreases-rows : goal.decreases-rows
decreases-rows g l = l.position
