use Rattle.std.proofs.Common.{List, ◌++◌, ℤ, ◌∙◌, ap, sym, append_assoc}
use Rattle.std.proofs.lemmas.List.{append-nil}
use Rattle.proto_wire.specs.MessageBytes.{records_of}
use Rattle.proto_wire.specs.Messages.{bytes_in, field_values, if_field, numbers_in, payload_record}
use Rattle.proto_wire.proofs.InsideLaws.{each_none, each_then, latest_none, latest_then}
use Rattle.proto_wire.proofs.inside.last_bytes_and_numbers.Goals as goal

pub loop-wire-preserved : goal.loop-wire-preserved
loop-wire-preserved c =
    let p = payload_record c.in-Some.wire c.in-Some.payload.now in
    let more = each_then c.args.numbers_field numbers_in (records_of c.loop-wire.rest) p (records_of c.next_record.new.rest) c.in-Some.ensures.some in
    record {
      text = c.loop-wire.invariant.text
          ∙ latest_then c.args.text_field bytes_in c.loop-wire.text.now c.bytes_or_last-text.result.now (records_of c.loop-wire.rest) p (records_of c.next_record.new.rest) c.in-Some.ensures.some c.bytes_or_last-text.ensures;
      numbers = c.loop-wire.invariant.numbers ∙ ap (λ (zs : List ℤ). c.loop-wire.numbers.items ++ zs) more
          ∙ sym (append_assoc c.loop-wire.numbers.items (if_field c.args.numbers_field c.in-Some.wire (numbers_in p)) (field_values c.args.numbers_field numbers_in (records_of c.next_record.new.rest)))
          ∙ ap (λ (zs : List ℤ). zs ++ field_values c.args.numbers_field numbers_in (records_of c.next_record.new.rest)) (sym c.in_ok-append_field_numbers.ensures.numbers);
      within = c.in-Some.ensures.within ∙ c.loop-wire.invariant.within;
    }

pub returns-clause-text : goal.returns-clause-text
returns-clause-text c = sym (c.loop-wire.invariant.text ∙ latest_none c.args.text_field bytes_in c.loop-wire.text.now (records_of c.loop-wire.rest) c.in_default.ensures.none)

pub returns-clause-numbers : goal.returns-clause-numbers
returns-clause-numbers c =
    sym (c.loop-wire.invariant.numbers ∙ ap (λ (zs : List ℤ). c.loop-wire.numbers.items ++ zs) (each_none c.args.numbers_field numbers_in (records_of c.loop-wire.rest) c.in_default.ensures.none) ∙ append-nil c.loop-wire.numbers.items)
