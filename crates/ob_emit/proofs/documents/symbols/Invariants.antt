use Rattle.std.proofs.Common.{◌≡◌, ℕ, List, map, take}
use Rattle.std.specs.List.{filter_map}
use Rattle.scip_index.specs.Plain.{symbol_model}
use Rattle.ob_emit.specs.Documents.{declared_symbol_info}
use Rattle.ob_emit.specs.StoredTexts.{AreSymbolTexts}
use Rattle.ob_emit.proofs.documents.symbols.Given as goal

abbrev pub invariant-loop-reference : goal.invariant-loop-reference
invariant-loop-reference l = (p : List ℕ) → AreSymbolTexts l.view p l.texts → map symbol_model l.found.items ≡ filter_map (declared_symbol_info l.view p) (take l.reference-index l.refs)
