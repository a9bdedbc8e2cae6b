use Rattle.std.proofs.Common.{map, take}
use Rattle.ob_board.specs.Unresolved.{unresolved_model, AreUnresolvedRows}
use Rattle.ob_board.proofs.rows.locate_all_unresolved.Given as goal

abbrev pub invariant-loop-number : goal.invariant-loop-number
invariant-loop-number l = AreUnresolvedRows l.path l.bytes l.tokens (take l.number-index l.numbers) (map unresolved_model l.rows.items)
