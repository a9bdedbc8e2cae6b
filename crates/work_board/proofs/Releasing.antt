-- A module with one undelivered import fewer.
use Rattle.std.proofs.Common.{◌≡◌, ◌<◌, ◌+◌, ◌-◌, ℕ, zero, suc, List, length, take, set, refl, sym, ◌∙◌, arith, inl, inr, get_or}
use Rattle.std.specs.Prelude.{slice_index}
use Rattle.std.proofs.lemmas.Bool.{cases_eq}
use Rattle.std.proofs.lemmas.List.{get_or-set_same, get_or-set_other}
use Rattle.work_board.specs.declared.state.State.{State}
use Rattle.work_board.specs.declared.state.State.TheVariants.{Waiting, Free, Claimed, Delivered}
use Rattle.work_board.specs.Graphs.{occurrences_in}
use Rattle.work_board.specs.Keeping.{state_after_delivery, IsFit}
use Rattle.work_board.proofs.Counting.{times_yes, times_no}

pub freed_same : (s : State) (k : ℕ) → IsFit s k → s ≡ state_after_delivery s k
freed_same Waiting zero fit = absurd (omega arith)
freed_same Waiting (suc k) fit = refl
freed_same Free k fit = refl
freed_same Claimed k fit = refl
freed_same Delivered k fit = refl

pub still_waiting : (s : State) (k : ℕ) → IsFit s k → 0 < k → s ≡ Waiting
still_waiting Waiting k fit lt = refl
still_waiting Free k fit lt = absurd (omega arith)
still_waiting Claimed k fit lt = absurd (omega arith)
still_waiting Delivered k fit lt = absurd (omega arith)

pub freed_waiting : (k : ℕ) → 0 < k → state_after_delivery Waiting k ≡ Waiting
freed_waiting zero lt = absurd (omega arith)
freed_waiting (suc k) lt = refl

module _ (old : List ℕ) (states : List State) (importers now : List ℕ) (i : ℕ) (lt : i < length importers) where
  pub released : (x : ℕ) → get_or importers i 0 ≡ x → x < length now → 0 < slice_index now x
      → ((m : ℕ) → m < length old → slice_index now m + occurrences_in m (take i importers) ≡ slice_index old m)
      → (m : ℕ) → m < length old → slice_index (set now x (slice_index now x - 1)) m + occurrences_in m (take (i + 1) importers) ≡ slice_index old m
  released x is within some kept m below =
      elim (cases_eq m x) [
        | inl same ↦
            let new : slice_index (set now x (slice_index now x - 1)) x ≡ slice_index now x - 1 = get_or-set_same now x (slice_index now x - 1) 0 within in
            let more : occurrences_in x (take (i + 1) importers) ≡ occurrences_in x (take i importers) + 1 = times_yes x importers i lt is in
            let belowx : x < length old = omega arith in
            let before : slice_index now x + occurrences_in x (take i importers) ≡ slice_index old x = kept x belowx in
            rw same (rw (new, more) (omega arith))
        | inr other ↦
            let new : slice_index (set now x (slice_index now x - 1)) m ≡ slice_index now m = get_or-set_other now x m (slice_index now x - 1) 0 other in
            let more : occurrences_in m (take (i + 1) importers) ≡ occurrences_in m (take i importers) = times_no m importers i lt (λ e. other (sym e ∙ is)) in
            rw (new, more) (kept m below)
      ]
