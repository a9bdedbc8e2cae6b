use Rattle.std.proofs.Common.{◌≡◌, ◌++◌, take}
use Rattle.std.specs.List.{flat_map}
use Rattle.std.specs.String.{string_bytes}
use Rattle.scip_symbol.specs.SymbolTexts.{canonical_descriptor_text}
use Rattle.scip_symbol.specs.Views.{descriptor_models}
use Rattle.scip_symbol.proofs.writer.append_descriptors.Given as goal

abbrev pub invariant-loop-descriptor : goal.invariant-loop-descriptor
invariant-loop-descriptor l =
    string_bytes l.out ≡ string_bytes l.initial.out ++ flat_map canonical_descriptor_text (descriptor_models (take l.descriptor-index l.descriptors))
