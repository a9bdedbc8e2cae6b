-- The written bytes and the buffered ones are the digits of the bytes so far.
use Rattle.std.proofs.Common.{◌≡◌, ℕ, List, ◌++◌, length}
use Rattle.std.specs.String.{string_bytes}
use Rattle.hex.specs.Hex.{encode_lower}
use Rattle.byte_sink.specs.Pieces.{WritesAllBut}
use Rattle.index_run.proofs.hexadecimal.hex_line.Given as goal

abbrev pub invariant-loop-rest : goal.invariant-loop-rest
invariant-loop-rest g l = record {
  gathered : (done : List ℕ) × (l.bytes ≡ done ++ l.rest) × WritesAllBut (g.S.Sink.taken l.initial.sink) (g.S.Sink.taken l.sink) (encode_lower done) (string_bytes l.text);
  failures : g.S.Sink.failures l.sink ≡ g.S.Sink.failures l.initial.sink;
}

abbrev pub decreases-loop-rest : goal.decreases-loop-rest
decreases-loop-rest g l = length l.rest
