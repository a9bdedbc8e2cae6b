use Rattle.std.proofs.Common.{◌≡◌, take}
use Rattle.std.specs.Prelude.{filter}
use Rattle.cut_solve.specs.Lines.{is_reported_import}
use Rattle.cut_solve.proofs.reporting.reported_imports.Given as goal

abbrev pub invariant-loop-i : goal.invariant-loop-i
invariant-loop-i l = l.printed.items ≡ filter (is_reported_import l.source_side l.sink_side) (take l.i-index l.imports)
