-- The tables have the occurrences so far.
use Rattle.std.proofs.Common.{◌≡◌, ◌++◌, [], ◌∷◌, Some, List, ℕ, map, take}
use Rattle.scip_index.specs.Plain.{document_model, occurrence_model}
use Rattle.index_store.specs.Queries.{PlacedOccurrence, occurrence_at}
use Rattle.index_store.specs.Stores.{tables_of, AreComplete, Keeps}
use Rattle.index_store.specs.Tables.{text_index, texts_in}
use Rattle.index_store.proofs.builder.StoreBuilder.add_document.Given as goal

abbrev pub invariant-loop-occurrence : goal.invariant-loop-occurrence
invariant-loop-occurrence l =
    let name = (document_model l.document).relative_path in
    AreComplete (tables_of l.self)
    × (text_index (texts_in l.self.by_path) name ≡ Some l.path)
    × ((paths : List (List ℕ)) (found : List PlacedOccurrence) → Keeps paths found (tables_of l.fn.self) → Keeps (paths ++ name ∷ []) (found ++ map (occurrence_at name) (map occurrence_model (take l.occurrence-index l.document.occurrences.items))) (tables_of l.self))
