use Rattle.std.proofs.Common.{◌+◌, ap, length, ℕ}
use Rattle.scip_index.proofs.WritingSteps.{ok-then}
use Rattle.scip_index.proofs.CompactOccurrences.{use_put}
use Rattle.scip_index.proofs.compact.append_compact_occurrence.Goals as goal

pub returns : goal.returns
returns c =
    let s = c.args.span.now in
    let text = c.args.symbol.now in
    ok-then c.append_role_field.result c.append_role_field.ensures
    (λ e. rw (e, c.in_ok-extend_from_slice.ensures.items, c.in_ok-append_record_prefix.ensures, c.as_bytes.ensures.value)
    (use_put c.args.out.now.items s.line s.column s.end (length text + 2 + c.role_size.result) text c.args.role c.requires.some c.requires.few c.requires.role_fits
    (ap (λ (n : ℕ). length text + 2 + n) c.role_size.ensures)))
