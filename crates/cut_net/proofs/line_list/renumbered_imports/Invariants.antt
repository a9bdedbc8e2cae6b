use Rattle.std.proofs.Common.{◌≡◌, ℕ, List, length, map, take}
use Rattle.cut_net.specs.NetList.{AreNumbersOf}
use Rattle.cut_net.specs.NetReading.{import_line}
use Rattle.cut_net.specs.WellFormed.{AreBetween}
use Rattle.cut_net.proofs.line_list.renumbered_imports.Given as goal

abbrev pub invariant-loop-import : goal.invariant-loop-import
invariant-loop-import l = (old names : List (List ℕ)) → AreNumbersOf old names l.numbers →
    AreBetween l.list.items (length names) × (map (import_line names) l.list.items ≡ map (import_line old) (take l.import-index l.imports))
