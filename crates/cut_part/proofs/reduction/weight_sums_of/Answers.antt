use Rattle.std.proofs.Common.{◌<◌, ◌∙◌, ◌++◌, ◌∷◌, [], List, ap, get_or, length, length-set, refl, subst, sym, arith}
use Rattle.std.proofs.lemmas.List.{take_all, take_more}
use Rattle.cut_net.specs.declared.priced.Priced.{Priced}
use Rattle.cut_net.specs.Network.{missing_item}
use Rattle.cut_part.specs.WeightSums.{AreWeightSums}
use Rattle.cut_part.proofs.Adding.{adding_fits, adding_more, adding_most, from_in, to_in}
use Rattle.std.proofs.lemmas.Grind.{common_steps}
use Rattle.cut_part.proofs.reduction.weight_sums_of.Goals as goal

pub add_to_sum-requires-clause-place : goal.add_to_sum-requires-clause-place
add_to_sum-requires-clause-place c =
    let h = from_in c.args.imports.now c.args.modules c.loop-import.import-index c.requires.between c.loop-import-test.true in
    let size = c.loop-import.invariant.leaving_size in
    let ok = c.loop-import.leaving.ok.0 in
    omega arith

pub add_to_sum-requires-clause-fits : goal.add_to_sum-requires-clause-fits
add_to_sum-requires-clause-fits c =
    adding_fits c.args.imports.now c.loop-import.import-index missing_item c.loop-import-test.true c.loop-import.leaving.items _ c.loop-import.invariant.leaving_most (omega arith) _ c.requires.fits _

pub add_to_sum-requires-in-loop-import-clause-place : goal.add_to_sum-requires-in-loop-import-clause-place
add_to_sum-requires-in-loop-import-clause-place c =
    let h = to_in c.args.imports.now c.args.modules c.loop-import.import-index c.requires.between c.loop-import-test.true in
    let size = c.loop-import.invariant.entering_size in
    let ok = c.loop-import.entering.ok.0 in
    omega arith

pub add_to_sum-requires-in-loop-import-clause-fits : goal.add_to_sum-requires-in-loop-import-clause-fits
add_to_sum-requires-in-loop-import-clause-fits c =
    adding_fits c.args.imports.now c.loop-import.import-index missing_item c.loop-import-test.true c.loop-import.entering.items _ c.loop-import.invariant.entering_most (omega arith) _ c.requires.fits _

pub loop-import-preserved : goal.loop-import-preserved
loop-import-preserved c =
    let imports = c.args.imports.now in
    let k = c.loop-import.import-index in
    let in_k = c.loop-import-test.true in
    let kept = c.loop-import.invariant in
    let leaving_size = kept.leaving_size in
    let entering_size = kept.entering_size in
    let from_h = from_in imports c.args.modules k c.requires.between in_k in
    let to_h = to_in imports c.args.modules k c.requires.between in_k in
    let from_in_sums : (get_or imports k missing_item).from < length c.loop-import.leaving.items = omega arith in
    let to_in_sums : (get_or imports k missing_item).to < length c.loop-import.entering.items = omega arith in
    let left = c.add_to_sum.ensures.items in
    let entered = c.add_to_sum-in-loop-import.ensures.items in
    record {
      leaving_size = ap length left ∙ length-set c.loop-import.leaving.items _ _ ∙ leaving_size;
      entering_size = ap length entered ∙ length-set c.loop-import.entering.items _ _ ∙ entering_size;
      leaving_most = rw left (adding_most imports k missing_item in_k c.loop-import.leaving.items _ kept.leaving_most (omega arith) _ from_in_sums);
      entering_most = rw entered (adding_most imports k missing_item in_k c.loop-import.entering.items _ kept.entering_most (omega arith) _ to_in_sums);
      leave = rw left (adding_more imports k missing_item in_k c.loop-import.leaving.items _ (λ i. i.from) (λ i. i.amount) c.args.modules kept.leave refl from_in_sums);
      enter = rw entered (adding_more imports k missing_item in_k c.loop-import.entering.items _ (λ i. i.to) (λ i. i.amount) c.args.modules kept.enter refl to_in_sums);
      copied = c.in_ok-push.ensures.items ∙ ap (λ v. v ++ get_or imports k missing_item ∷ []) kept.copied ∙ sym (take_more imports k missing_item in_k);
    }

pub returns-clause-weight_sums : goal.returns-clause-weight_sums
returns-clause-weight_sums c =
    let whole = take_all c.loop-import.import-index c.args.imports.now c.loop-import-test.false in
    let kept = c.loop-import.invariant in
    let size = kept.leaving_size in
    let other = kept.entering_size in
    subst (λ (v : List Priced). AreWeightSums v c.loop-import.leaving.items c.loop-import.entering.items) (sym (kept.copied ∙ whole)) (record {
      sizes = omega arith;
      between = rw size c.requires.between;
      leave = λ m h. rw whole at (kept.leave m (omega arith));
      enter = λ m h. rw whole at (kept.enter m (omega arith));
    })

pub loop-import-init : goal.loop-import-init
loop-import-init c = grind (arith, common_steps)

pub returns-clause-imports : goal.returns-clause-imports
returns-clause-imports c = grind (arith, common_steps)
