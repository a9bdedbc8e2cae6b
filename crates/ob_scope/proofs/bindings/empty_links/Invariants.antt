use Rattle.std.proofs.Common.{◌≡◌, ℕ, ◌≤◌, ◌-◌, None, length}
use Rattle.std.specs.Prelude.{slice_index_or}
use Rattle.ob_scope.proofs.bindings.empty_links.Given as goal

abbrev pub invariant-loop-locations : goal.invariant-loop-locations
invariant-loop-locations l = record {
  few : length l.locations.items ≤ l.count;
  none : (k : ℕ) → slice_index_or l.locations.items k None ≡ None;
}

abbrev pub decreases-loop-locations : goal.decreases-loop-locations
decreases-loop-locations l = l.count - length l.locations.items
