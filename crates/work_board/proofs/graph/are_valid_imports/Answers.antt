use Rattle.std.proofs.Common.{◌≡◌, ◌<◌, ◌≤◌, length, sym, ap, ◌∙◌, subst, arith, rules, inl, inr}
use Rattle.std.specs.Prelude.{All}
use Rattle.std.proofs.lemmas.Bool.{cases_lt}
use Rattle.work_board.specs.Graphs.{lists, list_at}
use Rattle.work_board.proofs.Marking.{row_of}
use Rattle.work_board.proofs.graph.are_valid_imports.Goals as goal
use Rattle.work_board.proofs.graph.are_valid_imports.Goals.{then-len-gt-MAX_IMPORTS-via-then-len-gt-MAX_IMPORTS, then-len-gt-MAX_IMPORTS-via-else-len-gt-MAX_IMPORTS+then-not-all_below}

pub returns-then-len-gt-MAX_IMPORTS : goal.returns-then-len-gt-MAX_IMPORTS
returns-then-len-gt-MAX_IMPORTS c =
    let i = c.loop-row.row-index in
    let row : list_at (lists c.args.rows.now) i ≡ c.row-item.result.items = row_of c.args.rows.now i c.row-item.result c.loop-row-test.true ∙ ap (λ r. r.items) (sym c.row-item.is) in
    let size = ap length row in
    let ok = c.row-item.result.ok.0 in
    let count = c.len.ensures in (
      search rules,
      (λ all.
          let at = all i in
          elim c.then-len-gt-MAX_IMPORTS.branch [
            | then-len-gt-MAX_IMPORTS-via-then-len-gt-MAX_IMPORTS w ↦ let long = w.if-len-gt-MAX_IMPORTS.true in let short = at.0 in absurd (omega arith)
            | then-len-gt-MAX_IMPORTS-via-else-len-gt-MAX_IMPORTS+then-not-all_below w ↦ w.if-not-all_below.ensures.1 (subst (All (λ k. k < c.args.count)) (row ∙ sym w.as_slice.ensures.value) at.1)
          ]),
    )

pub loop-row-preserved : goal.loop-row-preserved
loop-row-preserved c = λ m lt.
    let i = c.loop-row.row-index in
    let row : list_at (lists c.args.rows.now) i ≡ c.row-item.result.items = row_of c.args.rows.now i c.row-item.result c.loop-row-test.true ∙ ap (λ r. r.items) (sym c.row-item.is) in
    let size = ap length row in
    let ok = c.row-item.result.ok.0 in
    let count = c.len.ensures in
    let short = c.if-len-gt-MAX_IMPORTS.false in
    elim (cases_lt m i) [
      | inl below ↦ c.loop-row.invariant m below
      | inr above ↦
          let here : m ≡ i = omega arith in
          let below : All (λ k. k < c.args.count) c.as_slice.result.now = c.if-not-all_below.ensures.0 (search rules) in
          let at : (length (list_at (lists c.args.rows.now) i) ≤ 65536) × All (λ k. k < c.args.count) (list_at (lists c.args.rows.now) i) =
          (omega arith, subst (All (λ k. k < c.args.count)) (c.as_slice.ensures.value ∙ sym row) below) in
          rw here at
    ]
