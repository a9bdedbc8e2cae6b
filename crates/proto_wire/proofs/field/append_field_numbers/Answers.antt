use Rattle.std.proofs.Common.{◌∙◌, sym}
use Rattle.std.proofs.lemmas.List.{append-nil}
use Rattle.proto_wire.specs.Messages.{payload_record}
use Rattle.proto_wire.proofs.FaultLaws.{UnlessMemory-known}
use Rattle.proto_wire.proofs.InsideLaws.{numbers_none}
use Rattle.proto_wire.proofs.field.append_field_numbers.Goals as goal

pub returns-in-Err-2 : goal.returns-in-Err-2
returns-in-Err-2 c =
    let fault = c.in-Err.fault in
    let known = UnlessMemory-known fault (λ e. let wrong = c.if-is_memory_fault.ensures.1 e in absurd cc) c.in-Err.ensures.err in
    let none = numbers_none c.args.field (payload_record c.args.wire.now c.args.payload.now) fault known in
    record { numbers = rw (c.truncate.ensures.items, c.len-before.ensures, c.args.numbers.now.ok.0, none) (c.in-Err.ensures.retained ∙ sym (append-nil _)) }
