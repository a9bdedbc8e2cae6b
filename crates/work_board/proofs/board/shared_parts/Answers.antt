use Rattle.std.proofs.Common.{map, ap, sym, ◌∙◌}
use Rattle.std.specs.Arc.{arc_value}
use Rattle.work_board.proofs.Ordering.{shares_none}
use Rattle.work_board.proofs.board.shared_parts.Goals as goal

pub returns-then-not-any_marked : goal.returns-then-not-any_marked
returns-then-not-any_marked g c =
    ap (map arc_value) c.new.ensures.items ∙ sym (shares_none g.E.WorkEntry.shared_of c.args.flags.now c.args.entries.now c.args.order.now (c.any_marked.ensures c.if-not-any_marked.true))
