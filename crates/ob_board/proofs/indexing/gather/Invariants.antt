use Rattle.std.proofs.Common.{◌≡◌, ◌++◌, map}
use Rattle.std.specs.List.{flat_map}
use Rattle.scip_index.specs.Plain.{document_model, symbol_model}
use Rattle.ob_board.specs.Entries.{entry_model}
use Rattle.ob_board.specs.declared.entry.Entry.{Entry}
use Rattle.ob_board.proofs.indexing.gather.Given as goal

abbrev pub invariant-loop-entry : goal.invariant-loop-entry
invariant-loop-entry l = record {
  documents : map document_model l.documents.items ++ map (λ (e : Entry). (entry_model e).document) l.entry-iterator.rest.items ≡ map (λ (e : Entry). (entry_model e).document) l.fn.entries.items;
  rows : map symbol_model l.rows.items ++ flat_map (λ (e : Entry). (entry_model e).externals) l.entry-iterator.rest.items ≡ flat_map (λ (e : Entry). (entry_model e).externals) l.fn.entries.items;
}
