-- One text after another.
use Rattle.std.proofs.Common.{◌++◌, map, ap, ◌∙◌, take_all}
use Rattle.std.specs.String.{string_bytes}
use Rattle.proto_wire.specs.Writing.{payload_field, payload_fields, spelled, spelled_fields}
use Rattle.proto_wire.proofs.EachLaws.{put-more}
use Rattle.proto_wire.proofs.field_encoding.append_texts.Goals as goal

pub loop-text-preserved : goal.loop-text-preserved
loop-text-preserved c =
    let x = c.text-item.result in
    put-more c.args.field string_bytes c.args.texts.now c.loop-text.text-index x _ _ _ c.loop-text-test.true c.text-item.is c.loop-text.invariant
    (c.in_ok-append_payload_field.ensures ∙ ap (λ bytes. c.loop-text.out.items ++ spelled (payload_field c.args.field bytes)) c.as_bytes.ensures.value)

pub returns : goal.returns
returns c =
    c.loop-text.invariant ∙ ap (λ xs. c.args.out.now.items ++ spelled_fields (payload_fields c.args.field (map string_bytes xs))) (take_all c.loop-text.text-index c.args.texts.now c.loop-text-test.false)
