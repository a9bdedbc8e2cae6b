use Rattle.std.proofs.Common.{append_assoc, rules}
use Rattle.std.specs.Prelude.{FitsSigned}
use Rattle.std.specs.Int.{w32}
use Rattle.std.proofs.lemmas.Int.{to_z-of_z}
use Rattle.std.proofs.lemmas.List.Concat.{flat_map-append}
use Rattle.scip_index.specs.Written.{written_occurrence}
use Rattle.scip_index.proofs.WritingSteps.{ok-then}
use Rattle.scip_index.proofs.borrowed.BorrowedOccurrenceWritten.encode_into.Goals as goal

pub returns-clause-bytes : goal.returns-clause-bytes
unfolding written_occurrence
returns-clause-bytes c =
    let p = c.args.self.now in
    let roles : FitsSigned w32 p.symbol_roles = search rules in
    ok-then c.append_range_field-2.result c.append_range_field-2.ensures
    (λ e. rw (e, c.in_ok-append_number.ensures.bytes, c.in_ok-append_bytes_field.ensures, c.as_bytes.ensures.value, c.in_ok-append_range_field.ensures)
    (simp (flat_map-append, append_assoc, to_z-of_z w32 p.symbol_roles roles)))
