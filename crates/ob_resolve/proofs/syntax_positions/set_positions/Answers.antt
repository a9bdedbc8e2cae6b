use Rattle.std.proofs.Common.{◌≡◌, drop, length, subst, sym, arith}
use Rattle.ob_resolve.proofs.Marks.{AreMarkedFrom, step_as_before, step_by_row, beyond, all_marked, unmarked}
use Rattle.ob_resolve.proofs.WrittenNames.{drop_past}
use Rattle.ob_resolve.proofs.syntax_positions.set_positions.Goals as goal

pub rows-preserved-then-number-positions : goal.rows-preserved-then-number-positions
rows-preserved-then-number-positions g c = record {
  within = omega arith;
  marked = step_by_row _ _ c.args.rows.now c.rows.position c.index-rows-position.result c.args.positions.now c.rows.positions c.in-Some.number c.syntax_position.result (omega arith) c.rows.invariant.within c.index-rows-position.is
      c.in-Some.ensures (omega arith) c.syntax_position.ensures c.rows.invariant.marked;
}

pub rows-preserved-else-number-positions : goal.rows-preserved-else-number-positions
rows-preserved-else-number-positions g c = record {
  within = omega arith;
  marked = step_as_before _ _ c.args.rows.now c.rows.position c.index-rows-position.result c.args.positions.now c.rows.positions (omega arith) c.rows.invariant.within c.index-rows-position.is
      (beyond g.P.IdentifierEntry.has g.P.IdentifierEntry.at c.index-rows-position.result c.args.positions.now c.in-Some.number c.in-Some.ensures (omega arith)) c.rows.invariant.marked;
}

pub returns : goal.returns
returns g c =
    let none : c.rows.position ≡ 0 = omega arith in
    let all : AreMarkedFrom g.P.IdentifierEntry.has g.P.IdentifierEntry.at 0 c.args.rows.now c.args.positions.now c.rows.positions =
    subst (λ p. AreMarkedFrom g.P.IdentifierEntry.has g.P.IdentifierEntry.at p (drop p c.args.rows.now) c.args.positions.now c.rows.positions) none c.rows.invariant.marked in
    all_marked _ _ c.args.rows.now c.args.positions.now c.rows.positions all

pub rows-init : goal.rows-init
rows-init g c =
    let rows = c.args.rows.now in
    record {
      within = omega arith;
      marked = subst (λ rest. AreMarkedFrom g.P.IdentifierEntry.has g.P.IdentifierEntry.at (length rows) rest c.args.positions.now c.args.positions.now) (sym (drop_past rows (length rows) (omega arith)))
          (unmarked _ _ (length rows) c.args.positions.now);
    }

pub rows-preserved : goal.rows-preserved
rows-preserved g c = record {
  within = omega arith;
  marked = step_as_before _ _ c.args.rows.now c.rows.position c.index-rows-position.result c.args.positions.now c.rows.positions (omega arith) c.rows.invariant.within c.index-rows-position.is
      (λ k _. c.in_default.ensures k) c.rows.invariant.marked;
}
