use Rattle.std.proofs.Common.{◌≡◌, ◌<◌, ◌+◌, length, take, take_all, refl, sym, ap, ◌∙◌, arith, inl, inr}
use Rattle.std.specs.Prelude.{slice_index}
use Rattle.std.proofs.lemmas.Bool.{cases_eq}
use Rattle.std.proofs.lemmas.List.{length-map}
use Rattle.work_board.specs.Graphs.{lists, list_at, occurrences_in}
use Rattle.work_board.proofs.Counting.{times_yes, times_no}
use Rattle.work_board.proofs.Turning.{pushed_same, pushed_away, pushed_other, pushed_within}
use Rattle.work_board.proofs.graph.add_importer.Goals as goal

pub append_at-requires : goal.append_at-requires
append_at-requires c =
    let i = c.loop-imported.imported-index in
    let lt : slice_index c.args.row.now i < length (lists c.args.rows.now.items) = c.requires i 0 c.loop-imported-test.true in
    let same = c.loop-imported.invariant.size in
    let l = length-map c.loop-imported.rows.items (λ r. r.items) in
    let ok = c.loop-imported.rows.ok.0 in
    omega arith

pub loop-imported-preserved : goal.loop-imported-preserved
loop-imported-preserved c =
    let i = c.loop-imported.imported-index in
    let row = c.args.row.now in
    let m = c.args.by in
    let at = slice_index row i in
    let before = c.loop-imported.invariant in
    let rows = lists c.loop-imported.rows.items in
    let new = lists c.append_at.new.rows.items in
    let lt' : at < length (lists c.args.rows.now.items) = c.requires i 0 c.loop-imported-test.true in
    let same = before.size in
    let lt : at < length rows = omega arith in
    let is = c.in_ok-append_at.ensures.rows in
    record {
      size = c.in_ok-append_at.ensures.size ∙ before.size;
      more = λ n. elim (cases_eq n at) [
        | inl here ↦
            let t : occurrences_in at (take (i + 1) row) ≡ occurrences_in at (take i row) + 1 = times_yes at row i c.loop-imported-test.true refl in
            let p = pushed_same rows new at m lt is in
            let b = before.more at in
            rw here (omega (arith, t, p, b))
        | inr away ↦
            let t : occurrences_in n (take (i + 1) row) ≡ occurrences_in n (take i row) = times_no n row i c.loop-imported-test.true (λ e. away (sym e)) in
            let p = pushed_away rows new at m lt is n m away in
            let b = before.more n in
            omega (arith, t, p, b)
      ];
      others = λ n x other. pushed_other rows new at m lt is n x other ∙ before.others n x other;
      within = λ k below all. pushed_within rows new at m lt is k below (before.within k below all);
    }

pub returns : goal.returns
returns c =
    let after = c.loop-imported.invariant in
    let all = take_all c.loop-imported.imported-index c.args.row.now c.loop-imported-test.false in
    record {
      size = after.size;
      more = λ n. after.more n ∙ ap (λ row. occurrences_in c.args.by (list_at (lists c.args.rows.now.items) n) + occurrences_in n row) all;
      others = after.others;
      within = after.within;
    }
