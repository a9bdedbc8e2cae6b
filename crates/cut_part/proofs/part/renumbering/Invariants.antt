use Rattle.cut_part.specs.Marks.{IsNumberingTo}
use Rattle.cut_part.proofs.part.renumbering.Given as goal

abbrev pub invariant-loop-m : goal.invariant-loop-m
invariant-loop-m l = IsNumberingTo l.marks l.numbers.items l.new_numbers.items l.m
