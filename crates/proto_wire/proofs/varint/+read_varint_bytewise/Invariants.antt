use Rattle.proto_wire.proofs.varint.+read_varint_bytewise.Given as goal

abbrev pub decreases-read_varint_bytewise : goal.decreases-read_varint_bytewise
decreases-read_varint_bytewise l = l.most
