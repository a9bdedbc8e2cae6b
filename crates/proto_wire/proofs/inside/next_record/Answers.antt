use Rattle.std.proofs.Common.{sym}
use Rattle.std.proofs.lemmas.Bool.{eqb-true}
use Rattle.proto_wire.specs.Messages.{payload_record}
use Rattle.proto_wire.proofs.InsideLaws.{first_then, none_first, none_left}
use Rattle.proto_wire.proofs.inside.next_record.Goals as goal

pub returns-in-Err-clause-none : goal.returns-in-Err-clause-none
returns-in-Err-clause-none c = none_first c.args.rest.now.start c.args.rest.now.bytes.now c.in-Err.field-0 c.in-Err.ensures.exact

pub returns-in-Ok-clause-some : goal.returns-in-Ok-clause-some
returns-in-Ok-clause-some c = first_then c.args.rest.now.start c.args.rest.now.bytes.now (payload_record c.in-Ok.wire c.in-Ok.payload.now) c.in-Ok.after.now c.in-Ok.ensures.exact

pub returns-then-is_empty-clause-none : goal.returns-then-is_empty-clause-none
returns-then-is_empty-clause-none c = none_left c.args.rest.now.start c.args.rest.now.bytes.now (eqb-true _ _ (sym c.if-is_empty.ensures))
