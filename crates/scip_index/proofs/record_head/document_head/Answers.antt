use Rattle.std.proofs.Common.{refl, arith}
use Rattle.proto_wire.proofs.VarintLaws.{varint-small}
use Rattle.scip_index.proofs.record_head.document_head.Goals as goal

pub returns : goal.returns
returns c = rw (c.in_ok-append_varint.ensures, c.in_ok-push.ensures.items, c.in_ok-document_head.ensures.items, varint-small 18 (omega arith)) refl
