use Rattle.std.proofs.Common.{◌∙◌}
use Rattle.std.proofs.lemmas.Result.{err_from_is_err_and}
use Rattle.proto_wire.proofs.SinkLaws.{front-of_first, writes-then}
use Rattle.proto_wire.proofs.writer.write_payload.Goals as goal

pub returns-in_err-write_fully-clause-writes : goal.returns-in_err-write_fully-clause-writes
returns-in_err-write_fully-clause-writes g c =
    let p = err_from_is_err_and c.from_residual-in_err-write_fully.result c.from_residual-in_err-write_fully.ensures.1 in
    rw p.1
    (front-of_first (g.S.Sink.taken c.args.sink.now) (g.S.Sink.taken c.write_fully.new.sink) c.deref.result.now _ c.args.payload.now (c.deref.ensures.value ∙ c.in_ok-payload_head.ensures.bytes) c.in_err-write_fully.ensures.writes)

pub returns-clause-writes : goal.returns-clause-writes
returns-clause-writes g c =
    writes-then (g.S.Sink.taken c.args.sink.now) (g.S.Sink.taken c.write_fully.new.sink) (g.S.Sink.taken c.write_fully-2.new.sink) c.deref.result.now _ c.args.payload.now c.write_fully-2.result (c.deref.ensures.value ∙ c.in_ok-payload_head.ensures.bytes) c.in_ok-write_fully.ensures.writes c.write_fully-2.ensures.writes
