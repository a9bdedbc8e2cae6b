-- Histories that grow by the steps of one worker.
use Rattle.std.proofs.Common.{◌≡◌, ◌≢◌, ℕ, ◌+◌, true, ◌==◌, List, [], ◌∷◌, ◌++◌, refl, ap, ◌∙◌, arith, append_assoc, length-append}
use Rattle.cut_preflow.specs.declared.event.Event.{Event}
use Rattle.cut_preflow.specs.declared.event.Outcome.{Outcome}
use Rattle.cut_preflow.specs.declared.event.Outcome.TheVariants.{Moved, Raised, Stale, Refused}
use Rattle.cut_preflow.specs.Trace.{history_after}
use Rattle.cut_preflow.specs.Settled.{are_by, Appends}
use Rattle.cut_preflow.specs.Shares.{count_after}
use Rattle.cut_preflow.proofs.Arcs.{left_true, right_true, both_true, eq_true}

are_by-push : (worker : ℕ) (es : List Event) (e : Event) → are_by worker es ≡ true → e.worker ≡ worker → are_by worker (es ++ e ∷ []) ≡ true
are_by-push worker [] e h is = both_true (e.worker == worker) true (eq_true e.worker worker is) refl
are_by-push worker (x ∷ xs) e h is =
    both_true (x.worker == worker) (are_by worker (xs ++ e ∷ [])) (left_true (x.worker == worker) (are_by worker xs) h) (are_by-push worker xs e (right_true (x.worker == worker) (are_by worker xs) h) is)

pub Appends-push : (worker steps : ℕ) (old new : List Event) (e : Event) → Appends worker steps old new → e.worker ≡ worker → Appends worker (steps + 1) old (new ++ e ∷ [])
Appends-push worker steps old new e a is =
    record {
      added = a.added ++ e ∷ [];
      appended = ap (λ xs. xs ++ e ∷ []) a.appended ∙ append_assoc old a.added (e ∷ []);
      many = omega (arith, length-append a.added (e ∷ []), a.many);
      by = are_by-push worker a.added e a.by is;
    }

-- an event that was neither stale nor refused stands at the history's end
pub history_after-applied : (history : List Event) (e : Event) (outcome : Outcome) → outcome ≢ Stale → outcome ≢ Refused → history_after history e outcome ≡ history ++ e ∷ []
history_after-applied history e (Moved amount) a b = refl
history_after-applied history e (Raised label) a b = refl
history_after-applied history e Stale a b = absurd (a refl)
history_after-applied history e Refused a b = absurd (b refl)

-- and is counted
pub count_after-applied : (n : ℕ) (outcome : Outcome) → outcome ≢ Stale → outcome ≢ Refused → count_after n outcome ≡ n + 1
count_after-applied n (Moved amount) a b = refl
count_after-applied n (Raised label) a b = refl
count_after-applied n Stale a b = absurd (a refl)
count_after-applied n Refused a b = absurd (b refl)
