use Rattle.std.proofs.Common.{ℕ, zero, suc, ◌<◌, List, Option, Some, None, length}
use Rattle.std.specs.Prelude.{IfSome}
use Rattle.module_table.specs.declared.rows.Block.{Block}
use Rattle.ob_scope.specs.Visibility.{AreVisible, IsStart}
use Rattle.ob_scope.proofs.bindings.latest_visible.Given as goal

abbrev pub height : Option ℕ → ℕ
height None = zero
height (Some i) = suc i

abbrev pub invariant-loop-at : goal.invariant-loop-at
invariant-loop-at l = record {
  within : IfSome l.at (λ i. i < length l.members);
  start : (blocks : List Block) (numbers : List ℕ) (watermark j n : ℕ) (latest : List (Option ℕ)) → AreVisible blocks l.members numbers l.stack watermark j latest l.earlier
      → IsStart l.members numbers l.stack j n l.fn.from → IsStart l.members numbers l.stack j n l.at;
}

abbrev pub decreases-loop-at : goal.decreases-loop-at
decreases-loop-at l = height l.at
