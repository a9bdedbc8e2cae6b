use Rattle.std.proofs.Common.{map}
use Rattle.std.specs.Option.{option_map}
use Rattle.std.specs.String.{string_bytes}
use Rattle.ob_emit.proofs.Texting.{AreMadeBefore}
use Rattle.ob_emit.proofs.target_texts.declared_texts.Given as goal

abbrev pub invariant-loop-row : goal.invariant-loop-row
invariant-loop-row l = AreMadeBefore l.view l.prefix l.row-index l.locals (map (option_map string_bytes) l.texts.items)
