use Rattle.std.proofs.Common.{append_assoc}
use Rattle.std.proofs.lemmas.List.Concat.{flat_map-append}
use Rattle.scip_index.specs.Written.{written_document}
use Rattle.scip_index.proofs.WritingSteps.{ok-then}
use Rattle.ob_emit.proofs.records.append_document.Goals as goal

pub returns : goal.returns
unfolding written_document
returns c = λ p made.
    ok-then c.append_number.result c.append_number.ensures.bytes
    (λ e. rw (e, c.in_ok-append_text-2.ensures, c.in_ok-append_symbols.ensures p (c.in_ok-append_occurrences.ensures.texts p made), c.reserve_symbols.ensures, c.in_ok-append_occurrences.ensures.bytes p made, c.in_ok-append_text.ensures) (simp (flat_map-append, append_assoc)))
