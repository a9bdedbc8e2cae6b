use Rattle.std.proofs.Common.{◌≡◌, filter, take}
use Rattle.cut_dot.specs.Pictures.{is_reported}
use Rattle.cut_dot.proofs.reported.filter_reported.Given as goal

abbrev pub invariant-loop-import : goal.invariant-loop-import
invariant-loop-import l = l.reported.items ≡ filter (is_reported l.removed l.flow) (take l.import-index l.imports)
