use Rattle.std.proofs.Common.{◌≡◌, ◌∙◌, length, get_or, ap, arith}
use Rattle.cut_preflow.specs.Preflow.{import_in}
use Rattle.cut_preflow.proofs.Saturating.{saturate_fits, saturate_more, saturate_same, so_far}
use Rattle.cut_preflow.proofs.excesses.add_initial_excess.Goals as goal
use Rattle.cut_preflow.proofs.excesses.add_initial_excess.Goals.{then-import-ends, else-import-ends}

pub add_excess-requires-clause-fits : goal.add_excess-requires-clause-fits
add_excess-requires-clause-fits c = λ ne.
    let k = c.loop-import.import-index in
    let imports = c.args.imports.now in
    omega (arith, saturate_fits c.args.ends.source imports k c.loop-import-test.true c.requires.weights, c.loop-import.invariant.sums (import_in imports k).to ne)

pub loop-import-preserved : goal.loop-import-preserved
loop-import-preserved c =
    let k = c.loop-import.import-index in
    let imports = c.args.imports.now in
    let source = c.args.ends.source in
    elim c.if-import-ends.branch [
      | then-import-ends w ↦
          (let is = ap (λ v. v.items) w.excesses-is ∙ w.add_excess.ensures.excesses in
          record {
            active = rw (w.excesses-is, w.active-is) w.add_excess.ensures.active;
            sums = λ v ne. ap (λ xs. get_or xs v 0) is ∙ saturate_more source imports c.loop-import.excesses.items k v (omega (arith, c.requires.nodes k c.loop-import-test.true, c.loop-import.invariant.active.each_counted)) w.if-import-ends.true ne (c.loop-import.invariant.sums v ne);
          })
      | else-import-ends w ↦ record {
        active = rw (w.excesses-is, w.active-is) c.loop-import.invariant.active;
        sums = λ v ne. ap (λ x. get_or x.items v 0) w.excesses-is ∙ saturate_same source imports c.loop-import.excesses.items k v w.if-import-ends.false (c.loop-import.invariant.sums v ne);
      }
    ]

pub returns-clause-excesses : goal.returns-clause-excesses
returns-clause-excesses c = λ v ne.
    let all : c.loop-import.import-index ≡ length c.args.imports.now = omega (arith, c.loop-import-test.false, c.loop-import.auto.import-index-end) in
    c.loop-import.invariant.sums v ne ∙ ap (λ k. so_far c.args.ends.source c.args.imports.now k v) all
