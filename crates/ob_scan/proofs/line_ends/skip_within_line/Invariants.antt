use Rattle.std.proofs.Common.{◌≡◌, ◌≤◌, ◌<◌, ◌-◌, ℕ, false}
use Rattle.ob_scan.specs.Position.{ends_line}
use Rattle.ob_scan.proofs.line_ends.skip_within_line.Given as goal

abbrev pub invariant-lanes : goal.invariant-lanes
invariant-lanes l = (l.from ≤ l.at) × (l.at ≤ l.end) × ((k : ℕ) → l.from ≤ k → k < l.at → ends_line l.bytes k ≡ false)

abbrev pub decreases-lanes : goal.decreases-lanes
decreases-lanes l = l.end - l.at
