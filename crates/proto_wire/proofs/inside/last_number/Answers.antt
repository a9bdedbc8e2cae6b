use Rattle.std.proofs.Common.{◌∙◌, sym, to_z, w32}
use Rattle.std.proofs.lemmas.Int.{to_z-of_z}
use Rattle.proto_wire.specs.MessageBytes.{records_of}
use Rattle.proto_wire.specs.Messages.{number_in, payload_record}
use Rattle.proto_wire.proofs.InsideLaws.{latest_none, latest_then}
use Rattle.proto_wire.proofs.inside.last_number.Goals as goal

pub loop-wire-preserved : goal.loop-wire-preserved
loop-wire-preserved c = record {
  same = c.loop-wire.invariant.same
      ∙ latest_then c.args.field number_in (to_z w32 c.loop-wire.last-bits) _ (records_of c.loop-wire.rest) (payload_record c.in-Some.wire c.in-Some.field-0-1.now) (records_of c.next_record.new.rest) c.in-Some.ensures.some (to_z-of_z w32 c.number_or_last-last.result c.number_or_last-last.ensures.fits ∙ c.number_or_last-last.ensures.exact);
  within = c.in-Some.ensures.within ∙ c.loop-wire.invariant.within;
}

pub returns : goal.returns
returns c = sym (c.loop-wire.invariant.same ∙ latest_none c.args.field number_in (to_z w32 c.loop-wire.last-bits) (records_of c.loop-wire.rest) c.in_default.ensures.none)
