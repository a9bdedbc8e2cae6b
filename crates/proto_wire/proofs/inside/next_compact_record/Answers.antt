use Rattle.proto_wire.specs.Messages.{payload_record}
use Rattle.proto_wire.proofs.InsideLaws.{first_whole}
use Rattle.proto_wire.proofs.inside.next_compact_record.Goals as goal

pub returns-clause-first : goal.returns-clause-first
returns-clause-first c = first_whole c.args.rest.now.start c.args.rest.now.bytes.now (payload_record c.in_ok-wire.wire c.in_ok-wire.payload.now) c.in_ok-wire.after.now c.in_ok-wire.ensures.exact
