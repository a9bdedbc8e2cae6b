-- Residual arcs that a scan skips.
use Rattle.std.proofs.Common.{ℕ, ◌+◌, ◌≤◌, ◌<◌, sym, subst, arith, inl, inr}
use Rattle.std.proofs.lemmas.Bool.{cases_eq}

-- a property of the arcs before an index and of the arc there holds of the arcs before the next index
pub up_to_next : (Q : ℕ → Type 0) (start place : ℕ) → ((p : ℕ) → start ≤ p → p < place → Q p) → Q place → (p : ℕ) → start ≤ p → p < place + 1 → Q p
up_to_next Q start place before here p from low = elim (cases_eq p place) [
  | inl e ↦ subst Q (sym e) here
  | inr ne ↦ before p from (omega arith)
]
