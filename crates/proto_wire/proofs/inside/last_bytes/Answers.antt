use Rattle.std.proofs.Common.{◌∙◌, sym}
use Rattle.proto_wire.specs.MessageBytes.{records_of}
use Rattle.proto_wire.specs.Messages.{bytes_in, payload_record}
use Rattle.proto_wire.proofs.InsideLaws.{latest_none, latest_then}
use Rattle.proto_wire.proofs.inside.last_bytes.Goals as goal

pub loop-wire-preserved : goal.loop-wire-preserved
loop-wire-preserved c = record {
  same = c.loop-wire.invariant.same
      ∙ latest_then c.args.field bytes_in c.loop-wire.last.now c.bytes_or_last-last.result.now (records_of c.loop-wire.rest) (payload_record c.in-Some.wire c.in-Some.payload.now) (records_of c.next_record.new.rest) c.in-Some.ensures.some c.bytes_or_last-last.ensures;
  within = c.in-Some.ensures.within ∙ c.loop-wire.invariant.within;
}

pub returns : goal.returns
returns c = sym (c.loop-wire.invariant.same ∙ latest_none c.args.field bytes_in c.loop-wire.last.now (records_of c.loop-wire.rest) c.in_default.ensures.none)
