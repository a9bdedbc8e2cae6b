-- The marks are at the ends of the imports so far.
use Rattle.std.proofs.Common.{◌≡◌, length, take}
use Rattle.cut_net.specs.Cuts.{IsSetOf}
use Rattle.residual_graph.specs.Graphs.{is_flagged}
use Rattle.cut_dot.specs.Pictures.{IsImportEnd}
use Rattle.cut_dot.proofs.reported.flag_ends.Given as goal

abbrev pub invariant-loop-import : goal.invariant-loop-import
invariant-loop-import l = record {
  size : length l.marks.items ≡ l.modules;
  ends : IsSetOf (is_flagged l.marks.items) (IsImportEnd (take l.import-index l.imports));
}
