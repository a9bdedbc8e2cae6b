use Rattle.std.proofs.Common.{◌≡◌, ℕ, length}
use Rattle.std.specs.Fn.{FnReturnsAt}
use Rattle.digraph.specs.LinkedLists.{AreKeys, AreLinkedLists, IsInList}
use Rattle.digraph.proofs.linked_lists.link_by_key.Given as goal

abbrev pub invariant-loop-number : goal.invariant-loop-number
invariant-loop-number g l = record {
  size : length l.last.items ≡ l.list_count;
  list_count : (of : ℕ → ℕ) → AreKeys (FnReturnsAt g.F.Fn l.key_of) l.things of → AreLinkedLists (IsInList of) l.list_count l.last.items l.before.items l.number;
}
