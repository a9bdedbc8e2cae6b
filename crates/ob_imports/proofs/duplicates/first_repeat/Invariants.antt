use Rattle.std.proofs.Common.{ℕ, ◌+◌, ◌<◌}
use Rattle.ob_imports.specs.Names.{IsRepeat, texts}
use Rattle.ob_imports.proofs.duplicates.first_repeat.Given as goal

abbrev pub invariant-loop-place : goal.invariant-loop-place
invariant-loop-place l = (j : ℕ) → j + 1 < l.place → IsRepeat (texts l.names) j → ⊥
