use Rattle.std.proofs.Common.{◌≡◌, take, map}
use Rattle.cut_part.specs.Reversal.{reversed}
use Rattle.cut_part.proofs.part.reversed_imports.Given as goal

abbrev pub invariant-loop-i : goal.invariant-loop-i
invariant-loop-i l = l.all.items ≡ map reversed (take l.i-index l.imports)
