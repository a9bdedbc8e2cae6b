use Rattle.std.proofs.Common.{◌≡◌}
use Rattle.work_board.specs.Graphs.{lists}
use Rattle.ob_board.specs.BoardGraphs.{rows_below}
use Rattle.ob_board.proofs.graphs.all_tree_imports.Given as goal

abbrev pub invariant-loop-node : goal.invariant-loop-node
invariant-loop-node l = lists l.rows.items ≡ rows_below l.graph l.node
