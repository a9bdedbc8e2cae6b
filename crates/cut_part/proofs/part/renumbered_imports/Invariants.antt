use Rattle.std.proofs.Common.{◌≡◌, take, map, get_or}
use Rattle.cut_part.specs.Renumbering.{renumbered}
use Rattle.cut_part.proofs.part.renumbered_imports.Given as goal

abbrev pub invariant-loop-line : goal.invariant-loop-line
invariant-loop-line l = l.all.items ≡ map (renumbered (λ m. get_or l.numbers m 0)) (take l.line-index l.lines)
