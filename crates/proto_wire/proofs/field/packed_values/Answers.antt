use Rattle.std.proofs.Common.{Ok, Err}
use Rattle.std.proofs.lemmas.Result.{err_from_is_err_and}
use Rattle.proto_wire.proofs.FaultLaws.{UnlessMemory-then}
use Rattle.proto_wire.proofs.PackedReadings.{fault_told, numbers_told, packed_outcome_is_unique}
use Rattle.proto_wire.proofs.field.packed_values.Goals as goal

pub returns-in_err-decode_packed_into-clause-exact : goal.returns-in_err-decode_packed_into-clause-exact
returns-in_err-decode_packed_into-clause-exact c =
    let p = err_from_is_err_and c.from_residual.result c.from_residual.ensures.1 in
    let fault = c.in_err-decode_packed_into.field-0.0 in
    rw (p.1, p.2) (UnlessMemory-then fault c.in_err-decode_packed_into.ensures.err (fault_told c.args.at c.args.payload.now fault))

pub returns-in_err-decode_packed_into-clause-only : goal.returns-in_err-decode_packed_into-clause-only
returns-in_err-decode_packed_into-clause-only c =
    let p = err_from_is_err_and c.from_residual.result c.from_residual.ensures.1 in
    let at = c.args.at in
    let payload = c.args.payload.now in
    let fault = c.in_err-decode_packed_into.field-0.0 in
    rw (p.1, p.2) (λ o h. UnlessMemory-then fault c.in_err-decode_packed_into.ensures.err (λ e. packed_outcome_is_unique at payload (Err fault) o (fault_told at payload fault e) h))

pub returns-clause-exact : goal.returns-clause-exact
returns-clause-exact c =
    let done = c.in_ok-decode_packed_into.ensures in
    numbers_told c.args.at c.args.payload.now c.new-numbers.result.items c.decode_packed_into.new.numbers.items c.new-numbers.ensures.items done.clean done.numbers

pub returns-clause-only : goal.returns-clause-only
returns-clause-only c =
    let at = c.args.at in
    let payload = c.args.payload.now in
    let done = c.in_ok-decode_packed_into.ensures in
    let numbers = c.decode_packed_into.new.numbers.items in
    λ o h. packed_outcome_is_unique at payload (Ok numbers) o (numbers_told at payload c.new-numbers.result.items numbers c.new-numbers.ensures.items done.clean done.numbers) h
