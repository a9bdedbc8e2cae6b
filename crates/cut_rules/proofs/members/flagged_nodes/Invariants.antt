use Rattle.std.proofs.Common.{◌≡◌, ◌<◌, ℕ, true}
use Rattle.std.specs.Prelude.{◌↔◌, AllPairs, Contains}
use Rattle.digraph.specs.Marks.{marked}
use Rattle.cut_rules.proofs.members.flagged_nodes.Given as goal

abbrev pub invariant-loop-node : goal.invariant-loop-node
invariant-loop-node l = ((v : ℕ) → Contains l.nodes.items v ↔ ((v < l.node) × (marked l.flags v ≡ true))) × AllPairs (λ v w. v < w) l.nodes.items
