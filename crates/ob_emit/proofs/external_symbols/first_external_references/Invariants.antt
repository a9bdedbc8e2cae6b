use Rattle.std.proofs.Common.{take}
use Rattle.ob_emit.proofs.FirstUses.{AreFirst}
use Rattle.ob_emit.proofs.external_symbols.first_external_references.Given as goal

abbrev pub invariant-loop-reference : goal.invariant-loop-reference
invariant-loop-reference l = AreFirst l.view l.refs l.seen (take l.reference-index l.refs) l.found.items
