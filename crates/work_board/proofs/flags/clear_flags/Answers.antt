use Rattle.std.proofs.Common.{false, length, arith, inl, inr}
use Rattle.std.proofs.lemmas.Bool.{cases_lt}
use Rattle.std.proofs.lemmas.List.{get_or_past}
use Rattle.work_board.proofs.flags.clear_flags.Goals as goal

pub returns : goal.returns
returns c = λ v.
    let now = c.loop-place.flags in
    let same = c.loop-place.auto.flags in
    let end = c.loop-place-test.false in
    elim (cases_lt v (length now)) [
      | inl below ↦ c.loop-place.invariant v (omega arith)
      | inr past ↦ get_or_past now v false past
    ]
