use Rattle.std.proofs.Common.{append_assoc, rules}
use Rattle.std.specs.Prelude.{FitsSigned}
use Rattle.std.specs.Int.{w32}
use Rattle.std.proofs.lemmas.Int.{to_z-of_z}
use Rattle.std.proofs.lemmas.List.Concat.{flat_map-append}
use Rattle.scip_index.specs.Written.{written_occurrence}
use Rattle.scip_index.proofs.WritingSteps.{ok-then}
use Rattle.scip_index.proofs.message_encoding.OccurrenceWritten.encode_into.Goals as goal

pub returns-clause-bytes : goal.returns-clause-bytes
unfolding written_occurrence
returns-clause-bytes c =
    let o = c.args.self.now in
    let roles : FitsSigned w32 o.symbol_roles = search rules in
    ok-then c.append_packed-2.result c.append_packed-2.ensures.bytes
    (λ e. rw (
      e,
      c.in_ok-append_number.ensures.bytes,
      c.in_ok-append_text.ensures,
      c.in_ok-append_packed.ensures.bytes,
      c.as_str.ensures.value,
      c.deref.ensures.value,
      c.deref-2.ensures.value,
    )
    (simp (flat_map-append, append_assoc, to_z-of_z w32 o.symbol_roles roles)))
