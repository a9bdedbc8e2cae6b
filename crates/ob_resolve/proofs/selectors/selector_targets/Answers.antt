use Rattle.std.proofs.Common.{◌≡◌, ℕ, ◌∙◌, ap, length, subst, arith}
use Rattle.std.proofs.lemmas.Option.{slice_get-get_or}
use Rattle.module_table.specs.Parts.{Rows}
use Rattle.ob_view.specs.World.{World}
use Rattle.ob_resolve.specs.Selected.{AreNamedTargets}
use Rattle.ob_resolve.proofs.Selecting.{nothing_passed, one_passed}
use Rattle.ob_resolve.proofs.selectors.selector_targets.Goals as goal

pub loop-position-preserved : goal.loop-position-preserved
loop-position-preserved c =
    let there = c.loop-position.invariant.types in
    record {
      types = c.in_ok-step_result.ensures.types ∙ there;
      passed = rw c.in_ok-push.ensures.items (one_passed c.args.types.now c.selectors-selectors.result.now c.loop-position.position _ c.loop-position.targets.items c.type_before-before.result c.loop-position.previous_type c.in_ok-step_result.step_result c.loop-position.finder there
          (c.selectors-selectors.ensures ∙ ap (λ (r : Rows). r.selectors) (c.table.ensures ∙ ap (λ (w : World). w.rows) c.view-view.ensures)) (slice_get-get_or c.selectors-selectors.result.now c.loop-position.position _ c.loop-position-test.true)
          c.loop-position.invariant.passed c.type_before-before.ensures
          c.in_ok-step_result.ensures.step_result);
    }

pub loop-position-init : goal.loop-position-init
loop-position-init c = record { types = c.new-finder.ensures; passed = nothing_passed c.args.types.now c.in_ok-targets.targets.items _ c.in_ok-targets.ensures.items }

pub returns : goal.returns
returns c =
    let same = c.selectors-selectors.ensures ∙ ap (λ (r : Rows). r.selectors) (c.table.ensures ∙ ap (λ (w : World). w.rows) c.view-view.ensures) in
    let all : c.loop-position.position ≡ length c.args.types.now.rows.selectors = omega (arith, ap length same, c.loop-position-test.false, c.loop-position.auto.position-end) in
    subst (λ (n : ℕ). AreNamedTargets c.args.types.now n c.loop-position.targets.items) all c.loop-position.invariant.passed.named
