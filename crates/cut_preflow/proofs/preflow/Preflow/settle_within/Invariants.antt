use Rattle.std.proofs.Common.{◌≡◌, ◌+◌}
use Rattle.cut_preflow.specs.Settled.{Appends}
use Rattle.cut_preflow.proofs.preflow.Preflow.settle_within.Given as goal

abbrev pub invariant-loop-i : goal.invariant-loop-i
invariant-loop-i g l = record {
  same : l.self.trace.net ≡ l.initial.self.trace.net;
  appends : Appends 0 l._i l.initial.self.trace.history l.self.trace.history;
  own : l.self.own ≡ l.initial.self.own + l._i;
  out : l.self.shares_out ≡ l.initial.self.shares_out;
}
