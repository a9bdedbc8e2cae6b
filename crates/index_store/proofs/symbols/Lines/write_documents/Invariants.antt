-- The written bytes and the buffered ones are the earlier buffer and the lines so far.
use Rattle.std.proofs.Common.{◌≡◌, ◌+◌, ◌++◌, ℕ, List, length}
use Rattle.std.specs.Prelude.{option_copied}
use Rattle.std.specs.List.{flat_map}
use Rattle.std.specs.String.{string_bytes}
use Rattle.texts.specs.Places.{writer_style}
use Rattle.byte_sink.specs.Pieces.{WritesAllBut}
use Rattle.index_store.specs.Direct.{documents_of}
use Rattle.index_store.specs.Symbols.{lines_of_document, AreTextDocuments}
use Rattle.index_store.proofs.symbols.Lines.write_documents.Given as goal

abbrev pub invariant-loop-document : goal.invariant-loop-document
invariant-loop-document g l = record {
  gathered : (so_far : List ℕ) × (flat_map (lines_of_document (writer_style l.initial.self.locations) (option_copied l.requested)) (documents_of l.index) ≡ so_far ++ flat_map (lines_of_document (writer_style l.initial.self.locations) (option_copied l.requested)) (documents_of l.rest))
      × WritesAllBut (g.S.Sink.taken l.initial.sink) (g.S.Sink.taken l.sink) (string_bytes l.initial.self.text ++ so_far) (string_bytes l.self.text);
  texts : AreTextDocuments (documents_of l.rest);
  style : writer_style l.self.locations ≡ writer_style l.initial.self.locations;
  failures : g.S.Sink.failures l.sink ≡ g.S.Sink.failures l.initial.sink;
  within : l.rest.start + length l.rest.bytes.now ≡ l.index.start + length l.index.bytes.now;
}

abbrev pub decreases-loop-document : goal.decreases-loop-document
decreases-loop-document g l = length l.rest.bytes.now
