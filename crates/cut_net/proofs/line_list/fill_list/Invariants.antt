use Rattle.std.proofs.Common.{ℕ, ◌≡◌, ◌+◌, ◌≤◌, List, length}
use Rattle.cut_net.specs.NetText.{NetLine, Spell}
use Rattle.cut_net.specs.NetList.{IsList, StartsWithPieces}
use Rattle.cut_net.proofs.line_list.fill_list.Given as goal

abbrev pub invariant-loop-rest : goal.invariant-loop-rest
invariant-loop-rest l = (prefix : List (List ℕ)) × (lines : List NetLine) × (l.line ≡ length prefix) × (l.line + length l.rest ≤ length l.bytes) × StartsWithPieces l.bytes prefix l.rest × Spell prefix lines × IsList lines l.list

abbrev pub decreases-loop-rest : goal.decreases-loop-rest
decreases-loop-rest l = length l.rest
