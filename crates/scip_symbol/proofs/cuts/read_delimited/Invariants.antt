use Rattle.std.proofs.Common.{◌≡◌, length}
use Rattle.std.specs.Prelude.{option_map}
use Rattle.std.specs.String.{string_bytes}
use denote.Text.{Utf8}
use denote.Shadow.{shadow}
use Rattle.scip_symbol.specs.Reading.{delimited_prefix}
use Rattle.scip_symbol.proofs.Ends.{with_front}
use Rattle.scip_symbol.proofs.cuts.read_delimited.Given as goal

abbrev pub invariant-loop-front : goal.invariant-loop-front
invariant-loop-front l = record {
  text : shadow (Utf8 l.rest);
  ends : delimited_prefix l.delimiter l.text ≡ option_map (with_front (string_bytes l.part)) (delimited_prefix l.delimiter l.rest);
}

abbrev pub decreases-loop-front : goal.decreases-loop-front
decreases-loop-front l = length l.rest
