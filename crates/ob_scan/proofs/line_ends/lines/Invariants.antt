use Rattle.std.proofs.Common.{◌≡◌, ◌≤◌, ◌-◌}
use Rattle.ob_scan.proofs.LineTables.{starts_to}
use Rattle.ob_scan.proofs.line_ends.lines.Given as goal

abbrev pub invariant-ends : goal.invariant-ends
invariant-ends l = (l.last ≤ l.end) × (l.starts.items ≡ starts_to l.bytes l.last)

abbrev pub decreases-ends : goal.decreases-ends
decreases-ends l = l.end - l.last
