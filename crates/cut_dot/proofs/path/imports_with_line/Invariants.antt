use Rattle.std.proofs.Common.{◌≡◌, filter, take}
use Rattle.cut_net.specs.Lines.{removed_by}
use Rattle.cut_dot.proofs.path.imports_with_line.Given as goal

abbrev pub invariant-loop-import : goal.invariant-loop-import
invariant-loop-import l = l.found.items ≡ filter (removed_by l.lines) (take l.import-index l.imports)
