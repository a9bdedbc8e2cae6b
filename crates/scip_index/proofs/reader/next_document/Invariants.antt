use Rattle.std.proofs.Common.{◌≡◌, ◌+◌, ◌≤◌, ◌++◌, ℕ, List, map, length}
use Rattle.std.specs.Prelude.{option_map}
use Rattle.proto_wire.specs.Records.{PayloadRecord}
use Rattle.scip_index.specs.Plain.{metadata_model, symbol_model}
use Rattle.scip_index.specs.Streaming.{IsReaderAt, documents_in}
use Rattle.scip_index.proofs.reader.next_document.Given as goal

abbrev pub invariant-records : goal.invariant-records
invariant-records l = record {
  skipped : (bytes : List ℕ) (front : List PayloadRecord) → IsReaderAt bytes front l.at l.rest (option_map metadata_model l.initial.metadata) (map symbol_model l.initial.externals.items)
      → (more : List PayloadRecord) × IsReaderAt bytes (front ++ more) l.place l.left (option_map metadata_model l.metadata) (map symbol_model l.externals.items) × (documents_in (front ++ more) ≡ documents_in front);
  inside : l.place + length l.left ≡ l.at + length l.rest;
  below : length l.left ≤ length l.rest;
}

abbrev pub decreases-records : goal.decreases-records
decreases-records l = length l.left
