use Rattle.std.proofs.Common.{◌≡◌, ◌+◌, None, length}
use Rattle.proto_wire.specs.Messages.{fault_of}
use Rattle.scip_index.specs.Meaning.{occurrence_fault}
use Rattle.scip_index.proofs.checked_messages.is_simple_valid_rest.Given as goal

abbrev pub invariant-loop : goal.invariant-loop
invariant-loop l = record {
  clean : fault_of occurrence_fault l.rest.start l.rest.bytes.now ≡ None → fault_of occurrence_fault l.left.start l.left.bytes.now ≡ None;
  within : l.rest.start + length l.rest.bytes.now ≡ l.left.start + length l.left.bytes.now;
}
