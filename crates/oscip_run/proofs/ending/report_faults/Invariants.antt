-- The faults so far are reported.
use Rattle.std.proofs.Common.{◌≡◌, ◌++◌}
use Rattle.std.specs.Vec.Iter.{into_iter_items}
use Rattle.oscip_run.specs.Endings.{AreReported}
use Rattle.texts.specs.Places.{style_of}
use Rattle.oscip_run.proofs.ending.report_faults.Given as goal

abbrev pub invariant-loop-fault : goal.invariant-loop-fault
invariant-loop-fault g l = record {
  reported : AreReported g.E.Sink.taken (style_of l.style) l.initial.stderr l.yielded l.all l.stderr;
  whole : l.yielded ++ into_iter_items l.fault-iterator ≡ into_iter_items l.initial.fault-iterator;
}
