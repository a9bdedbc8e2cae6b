use Rattle.std.proofs.Common.{◌≡◌, ◌≤◌, ◌+◌, ◌++◌, ◌∷◌, [], ℕ, length, vec_len}
use Rattle.digraph.specs.Spreading.{left_over}
use Rattle.cut_part.specs.CapacityReduction.{import_in}
use Rattle.cut_part.specs.Reach.{IsFollowing, IsSpreading}
use Rattle.cut_part.proofs.reach.flag_imported.Given as goal

abbrev pub invariant-loop-next : goal.invariant-loop-next
invariant-loop-next l = record {
  size : vec_len l.marks ≡ vec_len l.fn.marks;
  within : l.next ≤ length l.imports;
  own : (k : ℕ) → l.next ≡ k + 1 → (import_in l.imports k).from ≡ l.importer;
  following : (start : ℕ) → IsSpreading l.imports start l.fn.marks.items (l.fn.waiting.items ++ l.importer ∷ []) → IsFollowing l.imports start l.marks.items l.waiting.items l.importer l.next;
  same : left_over l.marks.items l.waiting.items ≡ left_over l.fn.marks.items l.fn.waiting.items;
}

abbrev pub decreases-loop-next : goal.decreases-loop-next
decreases-loop-next l = l.next
