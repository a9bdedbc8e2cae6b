use Rattle.std.proofs.Common.{◌≡◌, ◌+◌, ◌≤◌, List, length, map}
use Rattle.proto_wire.specs.Records.{PayloadRecord, IsSplit}
use Rattle.proto_wire.proofs.record.records.Given as goal

abbrev pub invariant-loop-rest : goal.invariant-loop-rest
invariant-loop-rest l = record {
  read : (front : List PayloadRecord) × (l.found.items ≡ map (λ p. p.wire) front) × IsSplit 0 l.bytes front l.at l.rest;
  inside : l.at + length l.rest ≤ length l.bytes;
}

abbrev pub decreases-loop-rest : goal.decreases-loop-rest
decreases-loop-rest l = length l.rest
