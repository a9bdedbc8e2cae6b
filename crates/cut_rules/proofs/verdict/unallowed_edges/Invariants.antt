use Rattle.std.specs.Prelude.{◌↔◌, Contains}
use Rattle.digraph.specs.declared.edge.Edge.{Edge}
use Rattle.cut_rules.specs.Judged.{IsCountedBefore}
use Rattle.cut_rules.proofs.verdict.unallowed_edges.Given as goal

abbrev pub invariant-loop-number : goal.invariant-loop-number
invariant-loop-number l = (p : Edge) → Contains l.edges.items p ↔ IsCountedBefore l.net l.allowed l.number p
