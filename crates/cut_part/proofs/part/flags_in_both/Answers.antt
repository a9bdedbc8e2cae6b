use Rattle.std.proofs.Common.{◌<◌, ◌+◌, ◌∙◌, false, ap, arith, inl, inr, length}
use Rattle.std.proofs.lemmas.Bool.{cases_eq}
use Rattle.std.proofs.lemmas.List.{get_or_append_left, get_or_push, length_push}
use Rattle.std.proofs.lemmas.Grind.{common_steps}
use Rattle.cut_part.proofs.part.flags_in_both.Goals as goal

pub loop-m-preserved : goal.loop-m-preserved
loop-m-preserved c =
    let size = c.loop-m.invariant.0 in
    let marks = c.loop-m.marks.items in (
      ap length c.in_ok-push.ensures.items ∙ length_push marks _ ∙ ap (λ n. n + 1) size,
      λ j h. elim (cases_eq j c.loop-m.m) [
        | inl e ↦ rw (c.in_ok-push.ensures.items, e) (get_or_push marks _ false c.loop-m.m size)
        | inr ne ↦
            let before : j < c.loop-m.m = omega arith in
            let within : j < length marks = omega arith in
            rw c.in_ok-push.ensures.items (get_or_append_left marks _ false j within ∙ c.loop-m.invariant.1 j before)
      ],
    )

pub returns-clause-flags_in_both : goal.returns-clause-flags_in_both
returns-clause-flags_in_both c = grind (arith, common_steps)
