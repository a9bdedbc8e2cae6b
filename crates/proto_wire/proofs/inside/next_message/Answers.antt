use Rattle.std.proofs.Common.{List, ◌++◌, ◌∙◌, ap, arith}
use Rattle.proto_wire.specs.MessageBytes.{records_of}
use Rattle.proto_wire.specs.Records.{PayloadRecord}
use Rattle.proto_wire.specs.Messages.{field_values, nested_records, payload_record}
use Rattle.proto_wire.proofs.InsideLaws.{each_none, each_then}
use Rattle.proto_wire.proofs.inside.next_message.Goals as goal

pub returns-in-Some-nested_message-clause-some : goal.returns-in-Some-nested_message-clause-some
returns-in-Some-nested_message-clause-some c =
    let p = payload_record c.in-Some.wire c.in-Some.payload.now in
    c.loop-wire.invariant.same ∙ each_then c.args.field nested_records (records_of c.loop-wire.rest) p (records_of c.next_record.new.rest) c.in-Some.ensures.some
    ∙ ap (λ (ms : List (List PayloadRecord)). ms ++ field_values c.args.field nested_records (records_of c.next_record.new.rest)) c.in-Some-nested_message.ensures.some

pub loop-wire-preserved : goal.loop-wire-preserved
loop-wire-preserved c =
    let p = payload_record c.in-Some.wire c.in-Some.payload.now in
    record {
      same = c.loop-wire.invariant.same ∙ each_then c.args.field nested_records (records_of c.loop-wire.rest) p (records_of c.next_record.new.rest) c.in-Some.ensures.some
          ∙ ap (λ (ms : List (List PayloadRecord)). ms ++ field_values c.args.field nested_records (records_of c.next_record.new.rest)) c.in_default-nested_message.ensures.none;
      within = c.in-Some.ensures.within ∙ c.loop-wire.invariant.within;
      shorter = omega (arith, c.in-Some.ensures.shorter, c.loop-wire.invariant.shorter);
    }

pub returns-clause-none : goal.returns-clause-none
returns-clause-none c = c.loop-wire.invariant.same ∙ each_none c.args.field nested_records (records_of c.loop-wire.rest) c.in_default.ensures.none
