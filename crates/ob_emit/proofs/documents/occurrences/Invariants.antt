use Rattle.std.proofs.Common.{◌≡◌, ℕ, List, map, take}
use Rattle.std.specs.List.{filter_map}
use Rattle.scip_index.specs.Plain.{occurrence_model}
use Rattle.ob_emit.specs.Documents.{occurrence}
use Rattle.ob_emit.specs.StoredTexts.{AreSymbolTexts}
use Rattle.ob_emit.proofs.documents.occurrences.Given as goal

abbrev pub invariant-loop-reference : goal.invariant-loop-reference
invariant-loop-reference l = (p : List ℕ) → AreSymbolTexts l.view p l.texts → map occurrence_model l.found.items ≡ filter_map (occurrence l.view p) (take l.reference-index l.refs)
