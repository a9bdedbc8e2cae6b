use Rattle.std.proofs.Common.{◌≡◌, ◌++◌, map, take}
use Rattle.ob_imports.specs.Graphs.{imported}
use Rattle.source_tree.specs.GraphNet.{entry_to, ranked}
use Rattle.source_tree.proofs.from_graph.append_weighted_imports.Given as goal

abbrev pub invariant-loop-to : goal.invariant-loop-to
invariant-loop-to l = l.imports.items ≡ l.fn.imports.items ++ map (ranked l.ranks) (map (entry_to l.graph l.scopes l.from) (take l.to-index (imported l.graph.pairs l.from)))
