-- Specifications of shares and of shared preflows, and the effect of an outcome on their counts.
use Rattle.std.specs.Prelude.{ℕ, ◌+◌, Bool, true}
use Rattle.cut_preflow.specs.declared.event.Outcome.{Outcome}
use Rattle.cut_preflow.specs.declared.event.Outcome.TheVariants.{Moved, Raised, Stale, Refused}
use Rattle.cut_preflow.specs.Trace.{Trace}

-- the specification of a share: its counted steps, and its flag
pub record Counted : Type 0 where
  pub count : ℕ
  pub marked : Bool

-- the specification of a shared preflow: its network and history, the total of its ledger, the steps counted in its own share, and the
-- number of shares that are out
pub record Shared : Type 0 where
  pub trace : Trace
  pub counted : ℕ
  pub own : ℕ
  pub shares_out : ℕ

-- the count after an event: one more if its step was applied
abbrev pub count_after : ℕ → Outcome → ℕ
count_after n (Moved amount) = n + 1
count_after n (Raised label) = n + 1
count_after n Stale = n
count_after n Refused = n

-- the flag of a share after an event: an outcome `Refused` sets it
abbrev pub mark_after : Bool → Outcome → Bool
mark_after marked (Moved amount) = marked
mark_after marked (Raised label) = marked
mark_after marked Stale = marked
mark_after marked Refused = true
