use Rattle.std.proofs.Common.{◌≡◌, take}
use Rattle.std.specs.Prelude.{nat_lt}
use Rattle.std.specs.List.{filter}
use Rattle.ob_imports.specs.Graphs.{imported}
use Rattle.ob_board.proofs.graphs.tree_imports_of_module.Given as goal

abbrev pub invariant-loop-import : goal.invariant-loop-import
invariant-loop-import l = l.row.items ≡ filter (λ w. nat_lt w l.graph.modules) (take l.import-index (imported l.graph.pairs l.node))
