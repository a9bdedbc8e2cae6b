use Rattle.std.proofs.Common.{◌≡◌, ◌*◌, length}
use Rattle.ob_emit.specs.Boundaries.{AreBefore, AreBoundaries}
use Rattle.ob_emit.proofs.declaration_index.first_index_by_stride.Given as goal

abbrev pub invariant-loop-mark : goal.invariant-loop-mark
invariant-loop-mark l = record {
  boundaries : AreBoundaries l.declared l.firsts.items;
  long : length l.firsts.items ≡ l.mark;
  before : AreBefore l.declared (l.mark * 16) l.place;
}
