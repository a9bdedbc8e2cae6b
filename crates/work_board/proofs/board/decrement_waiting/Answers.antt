use Rattle.std.proofs.Common.{◌≡◌, ◌<◌, ◌+◌, ◌-◌, ℕ, length, take, set, refl, sym, ap, ◌∙◌, arith, inl, inr}
use Rattle.std.specs.Prelude.{slice_index}
use Rattle.std.proofs.lemmas.Bool.{cases_eq}
use Rattle.std.proofs.lemmas.List.{get_or-set_same, get_or-set_other}
use Rattle.work_board.specs.declared.state.State.TheVariants.{Waiting, Free}
use Rattle.work_board.specs.Graphs.{occurrences_in}
use Rattle.work_board.specs.Keeping.{state_after_delivery, state_at}
use Rattle.work_board.proofs.Counting.{times_yes, times_take}
use Rattle.work_board.proofs.Releasing.{freed_same, freed_waiting, released, still_waiting}
use Rattle.work_board.proofs.board.decrement_waiting.Goals as goal
use Rattle.work_board.proofs.board.decrement_waiting.Goals.{then-waiting-place-eq0, else-waiting-place-eq0}

pub loop-module-init : goal.loop-module-init
loop-module-init c = record {
  waiting = λ m lt. omega arith;
  states = λ m lt. freed_same (state_at c.args.states.now m) (slice_index c.args.waiting.now m) (c.requires.fits_state m lt);
}

pub overflow_sub-waiting : goal.overflow_sub-waiting
overflow_sub-waiting c =
    let importers = c.args.importers.now in
    let i = c.loop-module.module-index in
    let x = slice_index importers i in
    let below : x < length c.args.waiting.now = c.requires.within i 0 c.loop-module-test.true in
    let more = times_yes x importers i c.loop-module-test.true refl in
    omega (arith, more, times_take x importers (i + 1), c.requires.counted x below, c.loop-module.invariant.waiting x below)

pub loop-module-preserved : goal.loop-module-preserved
loop-module-preserved c =
    let importers = c.args.importers.now in
    let i = c.loop-module.module-index in
    let x = slice_index importers i in
    let old = c.args.waiting.now in
    let now = c.loop-module.waiting in
    let states = c.args.states.now in
    let below : x < length old = c.requires.within i 0 c.loop-module-test.true in
    let more : occurrences_in x (take (i + 1) importers) ≡ occurrences_in x (take i importers) + 1 = times_yes x importers i c.loop-module-test.true refl in
    let before : slice_index now x + occurrences_in x (take i importers) ≡ slice_index old x = c.loop-module.invariant.waiting x below in
    let some : 0 < slice_index now x = omega (arith, more, times_take x importers (i + 1), c.requires.counted x below, before) in
    let long : length now ≡ length old = c.loop-module.auto.waiting in
    let long' : length c.loop-module.states ≡ length states = c.loop-module.auto.states in
    let size : length states ≡ length old = c.requires.size in
    let within : x < length now = omega arith in
    let within' : x < length c.loop-module.states = omega arith in
    let was : state_at states x ≡ Waiting = still_waiting (state_at states x) (slice_index old x) (c.requires.fits_state x below) (omega arith) in
    let at_x : slice_index (set now x (slice_index now x - 1)) x ≡ slice_index now x - 1 = get_or-set_same now x (slice_index now x - 1) 0 within in
    let away : (m : ℕ) → (m ≡ x → ⊥) → slice_index (set now x (slice_index now x - 1)) m ≡ slice_index now m = λ m other. get_or-set_other now x m (slice_index now x - 1) 0 other in
    record {
      waiting = released old states importers now i c.loop-module-test.true x refl within some c.loop-module.invariant.waiting;
      states =
          elim c.if-waiting-place-eq0.branch [
            | then-waiting-place-eq0 w ↦ (λ m lt.
                let none : slice_index now x - 1 ≡ 0 = sym at_x ∙ w.if-waiting-place-eq0.true in
                elim (cases_eq m x) [
                  | inl same ↦ rw (w.states-is, same, get_or-set_same c.loop-module.states x Free Waiting within', at_x, none, was) refl
                  | inr other ↦ rw (w.states-is, get_or-set_other c.loop-module.states x m Free Waiting other, away m other) (c.loop-module.invariant.states m lt)
                ])
            | else-waiting-place-eq0 w ↦ (λ m lt.
                let is_not : (slice_index now x - 1 ≡ 0) → ⊥ = λ e. w.if-waiting-place-eq0.false (at_x ∙ e) in
                elim (cases_eq m x) [
                  | inl same ↦
                      let here : state_at c.loop-module.states x ≡ state_after_delivery (state_at states x) (slice_index now x) = c.loop-module.invariant.states x below in
                      let still : state_at c.loop-module.states x ≡ Waiting = here ∙ ap (λ s. state_after_delivery s (slice_index now x)) was ∙ freed_waiting (slice_index now x) some in
                      rw (w.states-is, same, at_x, was, still) (sym (freed_waiting (slice_index now x - 1) (omega arith)))
                  | inr other ↦ rw (w.states-is, away m other) (c.loop-module.invariant.states m lt)
                ])
          ];
    }
