use Rattle.std.proofs.Common.{ℕ, ◌++◌, ◌∷◌, [], List, ap, sym, ◌∙◌, append_assoc, arith}
use Rattle.proto_wire.specs.Varints.{varint}
use Rattle.proto_wire.proofs.VarintLaws.{varint-small, varint-large}
use Rattle.proto_wire.proofs.varint.append_varint.Goals as goal

pub loop-rest-preserved : goal.loop-rest-preserved
loop-rest-preserved c =
    let front = c.loop-rest.out.items in
    let rest = c.loop-rest.rest in
    rw c.in_ok-push.ensures.items
    (append_assoc front (_ ∷ []) (varint _) ∙ ap (λ (bytes : List ℕ). front ++ bytes) (sym (varint-large rest (omega arith) (omega arith))) ∙ c.loop-rest.invariant)

pub returns : goal.returns
returns c =
    let front = c.loop-rest.out.items in
    rw c.in_ok-push-2.ensures.items
    (ap (λ (bytes : List ℕ). front ++ bytes) (sym (varint-small c.loop-rest.rest (omega arith))) ∙ c.loop-rest.invariant)
