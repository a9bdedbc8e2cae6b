-- The documents so far are written, and the writer is open.
use Rattle.std.proofs.Common.{◌≡◌, ◌++◌, None}
use Rattle.std.specs.Io.KnownBytes.{Appends}
use Rattle.std.specs.List.{flat_map}
use Rattle.std.specs.Vec.Iter.{into_iter_items}
use Rattle.scip_index.specs.declared.writer.Stage.TheVariants.{Open}
use Rattle.index_run.proofs.Documents.{part}
use Rattle.index_run.proofs.writing.write_documents.Given as goal

abbrev pub invariant-loop-document : goal.invariant-loop-document
invariant-loop-document g l = record {
  stage : l.writer.stage ≡ Open;
  well : l.writer.error ≡ None;
  taken : Appends (g.S.Sink.taken l.initial.sink) (g.S.Sink.taken l.sink) (flat_map part l.yielded);
  failures : g.S.Sink.failures l.sink ≡ g.S.Sink.failures l.initial.sink;
  whole : l.yielded ++ into_iter_items l.document-iterator ≡ into_iter_items l.initial.document-iterator;
}
