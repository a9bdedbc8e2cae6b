use Rattle.std.proofs.Common.{◌≡◌, map, take}
use Rattle.scip_index.specs.Plain.{symbol_model}
use Rattle.ob_emit.specs.Externals.{externals_in}
use Rattle.ob_emit.proofs.external_symbols.external_symbol_infos.Given as goal

abbrev pub invariant-loop-reference : goal.invariant-loop-reference
invariant-loop-reference l = map symbol_model l.found.items ≡ externals_in l.view (take l.reference-index l.refs)
