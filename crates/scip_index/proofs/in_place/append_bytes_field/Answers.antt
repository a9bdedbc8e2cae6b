use Rattle.std.proofs.Common.{◌+◌, ◌*◌, ◌<◌, length, arith, rules}
use Rattle.scip_index.proofs.InPlace.{ok_put, text_put}
use Rattle.scip_index.proofs.in_place.append_bytes_field.Goals as goal

pub returns : goal.returns
returns c =
    let text = c.args.bytes.now in
    let some : 0 < length text = search rules in
    ok_put c.extend_from_slice.result c.extend_from_slice.new.self.items c.append_varint.new.out.items text _ c.extend_from_slice.ensures.items
    (rw (c.in_ok-append_varint.ensures, c.in_ok-push.ensures.items)
    (text_put c.args.out.now.items text c.args.field (c.args.field * 8 + 2) c.requires.few (omega arith) some))
