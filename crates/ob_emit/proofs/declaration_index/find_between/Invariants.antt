use Rattle.std.proofs.Common.{◌≡◌, ◌<◌, ℕ, Some}
use Rattle.std.specs.Prelude.{slice_get}
use Rattle.module_table.specs.declared.rows.Declared.{Declared}
use Rattle.ob_emit.proofs.declaration_index.find_between.Given as goal

abbrev pub invariant-loop-at : goal.invariant-loop-at
invariant-loop-at l = (k : ℕ) (d : Declared) → k < l.at → slice_get l.declared k ≡ Some d → d.number ≡ l.number → ⊥
