use Rattle.std.proofs.Common.{◌∙◌, sym, to_z, w32}
use Rattle.std.proofs.lemmas.Int.{to_z-of_z}
use Rattle.proto_wire.specs.MessageBytes.{records_of}
use Rattle.proto_wire.specs.Messages.{bytes_in, number_in, payload_record}
use Rattle.proto_wire.proofs.InsideLaws.{latest_none, latest_then}
use Rattle.proto_wire.proofs.inside.last_bytes_and_number.Goals as goal

pub loop-wire-preserved : goal.loop-wire-preserved
loop-wire-preserved c = record {
  text = c.loop-wire.invariant.text
      ∙ latest_then c.args.text_field bytes_in c.loop-wire.text.now c.bytes_or_last-text.result.now (records_of c.loop-wire.rest) (payload_record c.in-Some.wire c.in-Some.payload.now) (records_of c.next_record.new.rest) c.in-Some.ensures.some c.bytes_or_last-text.ensures;
  number = c.loop-wire.invariant.number
      ∙ latest_then c.args.number_field number_in (to_z w32 c.loop-wire.number-bits) _ (records_of c.loop-wire.rest) (payload_record c.in-Some.wire c.in-Some.payload.now) (records_of c.next_record.new.rest) c.in-Some.ensures.some (to_z-of_z w32 c.number_or_last-number.result c.number_or_last-number.ensures.fits ∙ c.number_or_last-number.ensures.exact);
  within = c.in-Some.ensures.within ∙ c.loop-wire.invariant.within;
}

pub returns-clause-text : goal.returns-clause-text
returns-clause-text c = sym (c.loop-wire.invariant.text ∙ latest_none c.args.text_field bytes_in c.loop-wire.text.now (records_of c.loop-wire.rest) c.in_default.ensures.none)

pub returns-clause-number : goal.returns-clause-number
returns-clause-number c = sym (c.loop-wire.invariant.number ∙ latest_none c.args.number_field number_in (to_z w32 c.loop-wire.number-bits) (records_of c.loop-wire.rest) c.in_default.ensures.none)
