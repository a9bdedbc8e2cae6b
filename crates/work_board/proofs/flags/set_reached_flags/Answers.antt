use Rattle.std.proofs.Common.{◌≡◌, ◌<◌, length, take, sym, ap, ◌∙◌, refl, arith, inl, inr}
use Rattle.std.specs.Prelude.{slice_index}
use Rattle.std.proofs.lemmas.List.{take_all}
use Rattle.work_board.specs.Graphs.{lists, list_at}
use Rattle.work_board.specs.Marks.{marked}
use Rattle.work_board.proofs.Marking.{marked_set, met_more, or_true, row_of}
use Rattle.work_board.proofs.flags.set_reached_flags.Goals as goal

pub add_flags-requires : goal.add_flags-requires
add_flags-requires c =
    let reached = c.args.reached.now in
    let w = slice_index c.args.row.now c.loop-w.w-index in
    let below : w < length c.args.flags.now = c.requires.within c.loop-w.w-index 0 c.loop-w-test.true in
    let size = c.requires.size in
    let inside : w < length reached = omega arith in
    let row : list_at (lists reached) w ≡ c.as_slice.result.now = row_of reached w c.index-reached-w.result inside ∙ ap (λ r. r.items) (sym c.index-reached-w.is) ∙ sym c.as_slice.ensures.value in
    ap length (sym row) ∙ c.requires.width w inside ∙ sym c.clear_flags.auto.flags ∙ sym c.loop-w.auto.flags

pub loop-w-preserved : goal.loop-w-preserved
loop-w-preserved c =
    let reached = c.args.reached.now in
    let i = c.loop-w.w-index in
    let w = slice_index c.args.row.now i in
    let below : w < length c.args.flags.now = c.requires.within i 0 c.loop-w-test.true in
    let size = c.requires.size in
    let inside : w < length reached = omega arith in
    let row : list_at (lists reached) w ≡ c.as_slice.result.now = row_of reached w c.index-reached-w.result inside ∙ ap (λ r. r.items) (sym c.index-reached-w.is) ∙ sym c.as_slice.ensures.value in
    let new = c.add_flags.new.flags in
    let long = c.loop-w.auto.flags in
    let cleared = c.clear_flags.auto.flags in
    let long' = c.add_flags.auto.flags in
    let within : w < length new = omega arith in
    λ v lt.
    let old = c.loop-w.invariant v lt in
    let more = met_more (lists reached) c.args.row.now i c.loop-w-test.true w refl v in
    let store = marked_set new w v within in
    let or = or_true (marked c.loop-w.flags v) (marked c.as_slice.result.now v) in
    let row_v : marked (list_at (lists reached) w) v ≡ marked c.as_slice.result.now v = ap (λ r. marked r v) row in (
      (λ e. more.1 (elim (store.0 e) [
        | inl same ↦ inr (inl same)
        | inr there ↦ elim (or.0 (sym (c.add_flags.ensures v) ∙ there)) [
          | inl before ↦ inl (old.0 before)
          | inr mark ↦ inr (inr (row_v ∙ mark))
        ]
      ])),
      (λ met. store.1 (elim (more.0 met) [
        | inl before ↦ inr (c.add_flags.ensures v ∙ or.1 (inl (old.1 before)))
        | inr new_one ↦ elim new_one [
          | inl same ↦ inl same
          | inr mark ↦ inr (c.add_flags.ensures v ∙ or.1 (inr (sym row_v ∙ mark)))
        ]
      ])),
    )

pub returns : goal.returns
returns c =
    let all : take c.loop-w.w-index c.args.row.now ≡ c.args.row.now = take_all c.loop-w.w-index c.args.row.now c.loop-w-test.false in
    λ v lt. rw all at (c.loop-w.invariant v lt)
