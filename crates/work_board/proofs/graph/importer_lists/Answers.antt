use Rattle.std.proofs.Common.{◌≡◌, ◌<◌, ℕ, [], length, sym, ap, ◌∙◌, arith, inl, inr}
use Rattle.std.proofs.lemmas.Bool.{cases_eq, cases_lt}
use Rattle.std.proofs.lemmas.List.{get_or_past, length-map}
use Rattle.work_board.specs.Graphs.{lists, list_at, occurrences_in}
use Rattle.work_board.proofs.graph.importer_lists.Goals as goal

pub add_importer-requires : goal.add_importer-requires
add_importer-requires c =
    let l = length-map c.args.imports.now (λ r. r.items) in
    let same = c.loop-place.invariant.size in
    let size : length c.args.imports.now ≡ length (lists c.loop-place.rows.items) = omega arith in
    λ k d lt.
    let P : ℕ → Type 0 = λ x. x < length (lists c.loop-place.rows.items) in
    let e = ap length c.list_at.ensures in
    rw c.list_at.ensures (let h = c.requires.within c.loop-place.place k d (omega arith) in omega arith)

pub loop-place-preserved : goal.loop-place-preserved
loop-place-preserved c =
    let p = c.loop-place.place in
    let before = c.loop-place.invariant in
    let l = length-map c.args.imports.now (λ r. r.items) in
    let after = c.in_ok-add_importer.ensures in
    let lt = c.loop-place-test.true in
    record {
      size = after.size ∙ before.size;
      done = λ n x below. elim (cases_eq x p) [
        | inl here ↦
            let more = after.more n in
            let none = before.rest n p (omega arith) in
            let row_is = ap (occurrences_in n) c.list_at.ensures in
            rw here (omega (arith, more, none, row_is))
        | inr away ↦ after.others n x away ∙ before.done n x (omega arith)
      ];
      rest = λ n x above. after.others n x (λ e. absurd (omega arith)) ∙ before.rest n x (omega arith);
      within = after.within (length (lists c.args.imports.now)) (omega arith) before.within;
    }

pub returns-clause-transposed : goal.returns-clause-transposed
returns-clause-transposed c = λ m n.
    let l = length-map c.args.imports.now (λ r. r.items) in
    let end = c.loop-place-test.false in
    elim (cases_lt m (length c.args.imports.now)) [
      | inl below ↦ c.loop-place.invariant.done n m (omega arith)
      | inr above ↦
          let none : list_at (lists c.args.imports.now) m ≡ [] = get_or_past (lists c.args.imports.now) m [] (omega arith) in
          c.loop-place.invariant.rest n m (let e = c.loop-place.auto.place-end in omega arith) ∙ sym (ap (occurrences_in n) none)
    ]

pub returns-clause-size : goal.returns-clause-size
returns-clause-size c = c.loop-place.invariant.size

pub returns-clause-within : goal.returns-clause-within
returns-clause-within c = c.loop-place.invariant.within
