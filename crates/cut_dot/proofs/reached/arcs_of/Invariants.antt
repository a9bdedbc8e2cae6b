use Rattle.std.proofs.Common.{◌≡◌, filter, map, take}
use Rattle.cut_part.specs.Marks.{unit_capacity_arc}
use Rattle.cut_dot.specs.Pictures.{is_not_removed}
use Rattle.cut_dot.proofs.reached.arcs_of.Given as goal

abbrev pub invariant-loop-import : goal.invariant-loop-import
invariant-loop-import l = l.arcs.items ≡ map unit_capacity_arc (filter (is_not_removed l.removed) (take l.import-index l.imports))
