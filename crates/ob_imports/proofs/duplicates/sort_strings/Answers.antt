use Rattle.std.specs.String.{string_bytes}
use Rattle.std.proofs.lemmas.List.Sorted.{IsPermutation-map}
use Rattle.digraph.proofs.Ordered.{texts_in_order}
use Rattle.ob_imports.proofs.duplicates.sort_strings.Goals as goal

pub returns-clause-same : goal.returns-clause-same
returns-clause-same c = IsPermutation-map string_bytes _ _ c.sort_unstable.ensures.permutation

pub returns-clause-in_order : goal.returns-clause-in_order
returns-clause-in_order c = texts_in_order _ c.sort_unstable.ensures.sorted
