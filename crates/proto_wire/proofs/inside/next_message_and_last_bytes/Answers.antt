use Rattle.std.proofs.Common.{List, ◌++◌, ◌∙◌, ap, arith}
use Rattle.proto_wire.specs.MessageBytes.{records_of}
use Rattle.proto_wire.specs.Records.{PayloadRecord}
use Rattle.proto_wire.specs.Messages.{bytes_in, field_values, nested_records, payload_record}
use Rattle.proto_wire.proofs.InsideLaws.{each_none, each_then, latest_none, latest_then}
use Rattle.proto_wire.proofs.inside.next_message_and_last_bytes.Goals as goal

pub returns-in-Some-nested_message-clause-some : goal.returns-in-Some-nested_message-clause-some
returns-in-Some-nested_message-clause-some c =
    let p = payload_record c.in-Some.wire c.in-Some.payload.now in
    c.loop-wire.invariant.same ∙ each_then c.args.field nested_records (records_of c.loop-wire.rest) p (records_of c.next_record.new.rest) c.in-Some.ensures.some
    ∙ ap (λ (ms : List (List PayloadRecord)). ms ++ field_values c.args.field nested_records (records_of c.next_record.new.rest)) c.in-Some-nested_message.ensures.some

pub returns-in-Some-nested_message-clause-so_far : goal.returns-in-Some-nested_message-clause-so_far
returns-in-Some-nested_message-clause-so_far c =
    c.loop-wire.invariant.latest_same
    ∙ latest_then c.args.bytes_field bytes_in c.loop-wire.last.now c.bytes_or_last-last.result.now (records_of c.loop-wire.rest) (payload_record c.in-Some.wire c.in-Some.payload.now) (records_of c.next_record.new.rest) c.in-Some.ensures.some c.bytes_or_last-last.ensures

pub loop-wire-preserved : goal.loop-wire-preserved
loop-wire-preserved c =
    let p = payload_record c.in-Some.wire c.in-Some.payload.now in
    record {
      same = c.loop-wire.invariant.same ∙ each_then c.args.field nested_records (records_of c.loop-wire.rest) p (records_of c.next_record.new.rest) c.in-Some.ensures.some
          ∙ ap (λ (ms : List (List PayloadRecord)). ms ++ field_values c.args.field nested_records (records_of c.next_record.new.rest)) c.in_default-nested_message.ensures.none;
      latest_same = c.loop-wire.invariant.latest_same
          ∙ latest_then c.args.bytes_field bytes_in c.loop-wire.last.now c.bytes_or_last-last.result.now (records_of c.loop-wire.rest) p (records_of c.next_record.new.rest) c.in-Some.ensures.some c.bytes_or_last-last.ensures;
      within = c.in-Some.ensures.within ∙ c.loop-wire.invariant.within;
      shorter = omega (arith, c.in-Some.ensures.shorter, c.loop-wire.invariant.shorter);
    }

pub returns-clause-none : goal.returns-clause-none
returns-clause-none c = c.loop-wire.invariant.same ∙ each_none c.args.field nested_records (records_of c.loop-wire.rest) c.in_default.ensures.none

pub returns-clause-whole : goal.returns-clause-whole
returns-clause-whole c = c.loop-wire.invariant.latest_same ∙ latest_none c.args.bytes_field bytes_in c.loop-wire.last.now (records_of c.loop-wire.rest) c.in_default.ensures.none
