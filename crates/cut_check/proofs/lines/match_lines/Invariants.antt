use Rattle.cut_check.proofs.Matching.{Matching}
use Rattle.cut_check.proofs.lines.match_lines.Given as goal

abbrev pub invariant-loop-i : goal.invariant-loop-i
invariant-loop-i l = Matching l.imports l.lines l.i-index l.count l.amounts.items
