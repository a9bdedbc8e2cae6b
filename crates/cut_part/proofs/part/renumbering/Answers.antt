use Rattle.std.proofs.Common.{◌≡◌, length, arith}
use Rattle.cut_part.proofs.Numbering.{numbering_over, numbering_with}
use Rattle.std.proofs.lemmas.Grind.{common_steps}
use Rattle.cut_part.proofs.part.renumbering.Goals as goal
use Rattle.cut_part.proofs.part.renumbering.Goals.{then-marks-m+in_ok-push-2, else-marks-m}

pub loop-m-preserved : goal.loop-m-preserved
loop-m-preserved c =
    elim c.if-marks-m.branch [
      | then-marks-m+in_ok-push-2 w ↦
          let len = c.len.ensures in
          let ok = c.loop-m.numbers.ok.0 in
          let place : c.len.result ≡ length c.loop-m.numbers.items = omega arith in
          rw (w.numbers-is, w.in_ok-push-2.ensures.items, c.in_ok-push.ensures.items, place)
          (numbering_with c.args.marks.now c.loop-m.numbers.items c.loop-m.new_numbers.items c.loop-m.m c.loop-m.invariant w.if-marks-m.true)
      | else-marks-m w ↦
          rw (w.numbers-is, c.in_ok-push.ensures.items)
          (numbering_over c.args.marks.now c.loop-m.numbers.items c.loop-m.new_numbers.items c.loop-m.m c.loop-m.invariant c.len.result w.if-marks-m.false)
    ]

pub returns : goal.returns
returns c = grind (arith, common_steps)
