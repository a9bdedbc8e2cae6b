-- The written bytes and the buffered ones are the earlier buffer and the lines so far.
use Rattle.std.proofs.Common.{◌≡◌, ◌+◌, ◌++◌, ℕ, List, length}
use Rattle.std.specs.String.{string_bytes}
use Rattle.proto_wire.specs.MessageBytes.{records_of}
use Rattle.texts.specs.Places.{writer_style}
use Rattle.byte_sink.specs.Pieces.{WritesAllBut}
use Rattle.scip_index.specs.Meaning.{document_of}
use Rattle.index_store.specs.Symbols.{lines_in, HaveTextSymbols}
use Rattle.index_store.proofs.symbols.Lines.write_document_lines.Given as goal

abbrev pub invariant-loop-occurrence : goal.invariant-loop-occurrence
invariant-loop-occurrence g l = record {
  gathered : (so_far : List ℕ) × (lines_in (writer_style l.initial.self.locations) l.with_local l.path (document_of (records_of l.document)).occurrences ≡ so_far ++ lines_in (writer_style l.initial.self.locations) l.with_local l.path (document_of (records_of l.rest)).occurrences)
      × WritesAllBut (g.S.Sink.taken l.initial.sink) (g.S.Sink.taken l.sink) (string_bytes l.initial.self.text ++ so_far) (string_bytes l.self.text);
  texts : HaveTextSymbols (document_of (records_of l.rest)).occurrences;
  style : writer_style l.self.locations ≡ writer_style l.initial.self.locations;
  failures : g.S.Sink.failures l.sink ≡ g.S.Sink.failures l.initial.sink;
  within : l.rest.start + length l.rest.bytes.now ≡ l.document.start + length l.document.bytes.now;
}

abbrev pub decreases-loop-occurrence : goal.decreases-loop-occurrence
decreases-loop-occurrence g l = length l.rest.bytes.now
