use Rattle.std.proofs.Common.{◌≡◌, ◌+◌, ◌++◌, List, length}
use Rattle.proto_wire.specs.Records.{PayloadRecord, IsSplit}
use Rattle.proto_wire.specs.Messages.{IsClean}
use Rattle.proto_wire.proofs.message.decode_into.Given as goal

abbrev pub invariant-loop-rest : goal.invariant-loop-rest
invariant-loop-rest g l = record {
  read : (front : List PayloadRecord) × IsClean g.M.Message.fault_in front × ((before : List PayloadRecord) → g.M.Message.means l.initial.message before → g.M.Message.means l.message (before ++ front)) × IsSplit l.start l.bytes front l.at l.rest;
  inside : l.at + length l.rest ≡ l.start + length l.bytes;
}

abbrev pub decreases-loop-rest : goal.decreases-loop-rest
decreases-loop-rest g l = length l.rest
