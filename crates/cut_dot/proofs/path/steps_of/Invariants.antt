-- The steps so far, and those of the rest of the path, are those of the path.
use Rattle.std.proofs.Common.{◌≡◌, ◌<◌, ◌-◌, ◌++◌, drop}
use Rattle.cut_dot.specs.Pictures.{steps}
use Rattle.cut_dot.proofs.path.steps_of.Given as goal

abbrev pub invariant-loop-next : goal.invariant-loop-next
invariant-loop-next l = record {
  from_one : 0 < l.next;
  so_far : l.found.items ++ steps (drop (l.next - 1) l.path) ≡ steps l.path;
}
