use Rattle.std.proofs.Common.{◌≡◌, ◌++◌, ℕ, List, map, take}
use Rattle.std.specs.List.{filter_map}
use Rattle.proto_wire.specs.Writing.{payload_fields, spelled_fields}
use Rattle.scip_index.specs.Written.{written_occurrence}
use Rattle.ob_emit.specs.Documents.{occurrence}
use Rattle.ob_emit.specs.StoredTexts.{AreSymbolTexts}
use Rattle.ob_emit.proofs.records.append_occurrences.Given as goal

abbrev pub invariant-loop-reference : goal.invariant-loop-reference
invariant-loop-reference l = (p : List ℕ) → AreSymbolTexts l.view p l.initial.texts → AreSymbolTexts l.view p l.texts
    × (l.out.items ≡ l.initial.out.items ++ spelled_fields (payload_fields 2 (map written_occurrence (filter_map (occurrence l.view p) (take l.reference-index l.refs)))))
