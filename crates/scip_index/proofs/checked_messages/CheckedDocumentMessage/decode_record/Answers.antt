-- The later fields aren't inspected.
use Rattle.std.proofs.Common.{refl, arith}
use Rattle.std.proofs.lemmas.Bool.{ne_eqb}
use Rattle.proto_wire.specs.Messages.{field_fault}
use Rattle.scip_index.proofs.checked_messages.CheckedDocumentMessage.decode_record.Goals as goal

pub returns-then-wire-gt4-clause-clean : goal.returns-then-wire-gt4-clause-clean
unfolding field_fault
returns-then-wire-gt4-clause-clean c =
    let later = c.if-wire-gt4.true in
    let field = c.args.wire.now.field in
    rw (ne_eqb field 1 (λ e. omega (arith, e, later)), ne_eqb field 2 (λ e. omega (arith, e, later)), ne_eqb field 3 (λ e. omega (arith, e, later)), ne_eqb field 4 (λ e. omega (arith, e, later))) refl
