-- The records so far are written.
use Rattle.std.proofs.Common.{◌≡◌, ◌++◌, ℕ}
use Rattle.std.specs.Global.{Vec}
use Rattle.std.specs.List.{flat_map}
use Rattle.std.specs.Io.KnownBytes.{Appends}
use Rattle.std.specs.Vec.Iter.{into_iter_items}
use Rattle.index_run.proofs.records.write_records.Given as goal

abbrev pub invariant-loop-record : goal.invariant-loop-record
invariant-loop-record g l = record {
  taken : Appends (g.S.Sink.taken l.initial.sink) (g.S.Sink.taken l.sink) (flat_map (λ (row : Vec ℕ). row.items) l.yielded);
  failures : g.S.Sink.failures l.sink ≡ g.S.Sink.failures l.initial.sink;
  whole : l.yielded ++ into_iter_items l.record-iterator ≡ into_iter_items l.initial.record-iterator;
}
