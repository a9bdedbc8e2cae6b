use Rattle.std.proofs.Common.{arith}
use Rattle.proto_wire.specs.Messages.{payload_record}
use Rattle.proto_wire.proofs.FieldLaws.{text_at-good, text_at-bad}
use Rattle.proto_wire.proofs.field.decode_text.Goals as goal

pub returns-in_default-from_utf8-clause-err : goal.returns-in_default-from_utf8-clause-err
returns-in_default-from_utf8-clause-err c = text_at-bad c.args.field (payload_record c.args.wire.now c.args.payload.now) c.in-Bytes.field-0 (omega arith) c.in-Bytes.is c.in_default-from_utf8.ensures.cases.0

pub returns-in_ok-text-clause-clean : goal.returns-in_ok-text-clause-clean
returns-in_ok-text-clause-clean c = text_at-good c.args.field (payload_record c.args.wire.now c.args.payload.now) c.in-Bytes.field-0 (omega arith) c.in-Bytes.is c.in-Ok.ensures.cases.1
