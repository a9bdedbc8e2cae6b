use Rattle.std.proofs.Common.{◌≡◌, ◌≤◌, ◌+◌, ◌*◌, ◌++◌, ◌∷◌, [], ℕ, length, vec_len}
use Rattle.digraph.specs.Spreading.{left_over}
use Rattle.residual_graph.specs.Spreading.{IsFollowing, IsSpreading, LeavesFrom}
use Rattle.residual_graph.proofs.spread.flag_heads.Given as goal

abbrev pub invariant-loop-next : goal.invariant-loop-next
invariant-loop-next l = record {
  size : vec_len l.reached_flags ≡ vec_len l.fn.reached_flags;
  within : l.next ≤ length l.arcs * 2;
  own : (n : ℕ) → l.next ≡ n + 1 → LeavesFrom l.arcs l.node n;
  following : (start : ℕ) → IsSpreading l.arcs start l.fn.reached_flags.items (l.fn.waiting.items ++ l.node ∷ []) → IsFollowing l.arcs start l.reached_flags.items l.waiting.items l.node l.next;
  same : left_over l.reached_flags.items l.waiting.items ≡ left_over l.fn.reached_flags.items l.fn.waiting.items;
}

abbrev pub decreases-loop-next : goal.decreases-loop-next
decreases-loop-next l = l.next
