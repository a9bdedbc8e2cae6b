use Rattle.proto_wire.proofs.MessageLaws.{no_fault_iff, first_fault_iff}
use Rattle.proto_wire.proofs.laws.fault_of_matches_relations.Goals as goal

pub returns : goal.returns
returns c = record { none = no_fault_iff; first = first_fault_iff }
