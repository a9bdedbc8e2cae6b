-- One message after another.
use Rattle.std.proofs.Common.{◌++◌, map, ap, ◌∙◌, subst, take_all}
use Rattle.std.specs.List.{AllByRecursion}
use Rattle.proto_wire.specs.Writing.{payload_fields, spelled_fields}
use Rattle.proto_wire.proofs.EachLaws.{each-more, put-more}
use Rattle.proto_wire.proofs.field_encoding.append_messages.Goals as goal

pub loop-message-preserved : goal.loop-message-preserved
loop-message-preserved g c =
    let x = c.message-item.result in
    let i = c.loop-message.message-index in
    record {
      bytes = put-more c.args.field g.M.Written.written c.args.messages.now i x _ _ _ c.loop-message-test.true c.message-item.is c.loop-message.invariant.bytes c.in_ok-append_message.ensures.bytes;
      fits = each-more g.M.Written.fits c.args.messages.now i x c.loop-message-test.true c.loop-message.invariant.fits (subst g.M.Written.fits c.message-item.is c.in_ok-append_message.ensures.fits);
    }

pub returns-clause-bytes : goal.returns-clause-bytes
returns-clause-bytes g c =
    c.loop-message.invariant.bytes
    ∙ ap (λ xs. c.args.out.now.items ++ spelled_fields (payload_fields c.args.field (map g.M.Written.written xs))) (take_all c.loop-message.message-index c.args.messages.now c.loop-message-test.false)

pub returns-clause-fits : goal.returns-clause-fits
returns-clause-fits g c = subst (AllByRecursion g.M.Written.fits) (take_all c.loop-message.message-index c.args.messages.now c.loop-message-test.false) c.loop-message.invariant.fits
