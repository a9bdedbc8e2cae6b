use Rattle.std.proofs.Common.{◌≡◌, ◌+◌, ◌-◌, ◌++◌, List, ℕ, length, ap, ◌∙◌, arith}
use Rattle.std.proofs.lemmas.List.{length-append, take_at}
use Rattle.proto_wire.specs.Writing.{head_of}
use Rattle.scip_index.proofs.record_head.prepend_record_head.Goals as goal

pub returns : goal.returns
returns c = λ prefix payload is begins.
    let document_head = c.in_ok-document_head.document_head.items in
    let whole : length c.args.bytes.items ≡ length prefix + length payload = ap length is ∙ length-append prefix payload in
    let size : c.len.result - c.args.capacity ≡ length payload = omega (arith, whole, begins, c.args.bytes.ok.0) in
    let long : length c.as_slice.result.now ≡ length prefix = omega (arith, begins, c.in_ok-document_head.document_head.ok.0) in
    let new = c.overwrite_head.ensures prefix payload (c.as_mut_slice.ensures.value ∙ is) long in
    c.shrink_capacity.ensures
    ∙ take_at c.overwrite_head.new.bytes _ c.args.bytes.len (omega (arith, c.overwrite_head.auto.bytes, c.as_mut_slice.ensures.len, c.args.bytes.ok.0))
    ∙ new
    ∙ ap (λ (bytes : List ℕ). bytes ++ payload) (c.as_slice.ensures.value ∙ c.in_ok-document_head.ensures ∙ ap (head_of 2) size)
