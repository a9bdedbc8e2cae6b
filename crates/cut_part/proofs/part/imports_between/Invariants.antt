use Rattle.std.proofs.Common.{◌≡◌, take, map, filter, get_or}
use Rattle.residual_graph.specs.Graphs.{is_flagged}
use Rattle.cut_part.specs.Subnetworks.{are_ends_in}
use Rattle.cut_part.specs.Renumbering.{renumbered}
use Rattle.cut_part.proofs.part.imports_between.Given as goal

abbrev pub invariant-loop-i : goal.invariant-loop-i
invariant-loop-i l = l.some.items ≡ map (renumbered (λ m. get_or l.new_numbers m 0)) (filter (are_ends_in (is_flagged l.marks)) (take l.i-index l.imports))
