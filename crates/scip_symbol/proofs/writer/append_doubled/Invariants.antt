use Rattle.std.proofs.Common.{◌≡◌, ◌++◌, length}
use denote.Text.{Utf8}
use denote.Shadow.{shadow}
use Rattle.std.specs.String.{string_bytes}
use Rattle.scip_symbol.specs.Bytes.{doubled}
use Rattle.scip_symbol.proofs.writer.append_doubled.Given as goal

abbrev pub invariant-loop-front : goal.invariant-loop-front
invariant-loop-front l = record {
  text : shadow (Utf8 l.rest);
  put : string_bytes l.out ++ doubled l.delimiter l.rest ≡ string_bytes l.initial.out ++ doubled l.delimiter l.text;
}

abbrev pub decreases-loop-front : goal.decreases-loop-front
decreases-loop-front l = length l.rest
