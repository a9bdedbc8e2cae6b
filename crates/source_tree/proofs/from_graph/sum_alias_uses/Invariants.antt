use Rattle.std.proofs.Common.{◌≡◌, ℕ, List, take}
use Rattle.scopes.specs.Weights.{uses_of_import}
use Rattle.source_tree.specs.GraphNet.{sum_in}
use Rattle.source_tree.proofs.from_graph.sum_alias_uses.Given as goal

abbrev pub invariant-loop-alias : goal.invariant-loop-alias
invariant-loop-alias l = (name : List ℕ) → sum_in l.sums name ≡ uses_of_import (take l.alias-index l.scopes.aliases) name
