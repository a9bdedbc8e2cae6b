-- The effect of one step of a worker on the locked preflow.
use Rattle.std.specs.Prelude.{◌≡◌, ◌≢◌, ◌↔◌, ℕ, true, false}
use Rattle.cut_preflow.specs.declared.event.Event.{Event}
use Rattle.cut_preflow.specs.declared.event.Outcome.{Outcome}
use Rattle.cut_preflow.specs.declared.event.Outcome.TheVariants.{Stale, Refused}
use Rattle.cut_preflow.specs.Preflow.{applies}
use Rattle.cut_preflow.specs.Trace.{state_of, step_outcome, history_after}
use Rattle.cut_preflow.specs.Shares.{Shared, count_after}

-- `new` is the preflow after the event was tried. If the event's step was applied, the event is appended to the history, and the ledger's
-- total and the worker's count (`before`, `after`) are higher by one
pub record IsTried (event : Event) (old new : Shared) (before after : ℕ) : Type 0 where
  pub outcome : Outcome
  pub is : outcome ≢ Refused → outcome ≡ step_outcome old.trace.net (state_of old.trace) event.step
  pub stale : (outcome ≡ Stale) ↔ (applies old.trace.net (state_of old.trace) event.step ≡ false)
  pub left : new ≡ record old { trace = record old.trace { history = history_after old.trace.history event outcome }; counted = count_after old.counted outcome }
  pub counted : after ≡ count_after before outcome

-- the event is this worker's, and its step can be applied in the preflow's current state
pub record CanTry (shared : Shared) (worker : ℕ) (event : Event) : Type 0 where
  pub own : event.worker ≡ worker
  pub applies_now : applies shared.trace.net (state_of shared.trace) event.step ≡ true
