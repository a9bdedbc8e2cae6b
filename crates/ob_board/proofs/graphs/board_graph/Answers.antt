use Rattle.std.proofs.Common.{◌∙◌, sym, ap, subst}
use Rattle.work_board.specs.Graphs.{IsAcyclic, Modules}
use Rattle.ob_board.proofs.Chained.{acyclic_board}
use Rattle.ob_board.proofs.BoardRows.{board_is_graph}
use Rattle.ob_board.proofs.graphs.board_graph.Goals as goal

pub new-requires : goal.new-requires
new-requires c = rw (c.in_ok-names.ensures, c.in_ok-rows.ensures) (board_is_graph c.args.graph.now c.invariants.ensures)

pub returns-clause-acyclic : goal.returns-clause-acyclic
returns-clause-acyclic c =
    let g = c.args.graph.now in
    let rows = ap (λ (m : Modules). m.imports) c.in_ok-board.ensures ∙ c.in_ok-rows.ensures in
    subst IsAcyclic (sym rows) (acyclic_board g c.invariants.ensures.acyclic)
