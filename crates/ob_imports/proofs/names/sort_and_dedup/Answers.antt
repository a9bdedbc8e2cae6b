use Rattle.std.specs.String.{string_eq}
use Rattle.std.proofs.lemmas.List.Filters.{dedup_is}
use Rattle.digraph.proofs.Ordered.{ascending, members}
use Rattle.ob_imports.proofs.names.sort_and_dedup.Goals as goal

pub returns-clause-ascending : goal.returns-clause-ascending
returns-clause-ascending c = ascending _ _ (dedup_is string_eq _ _ c.dedup.ensures.filtered) c.sort_unstable.ensures.sorted

pub returns-clause-same : goal.returns-clause-same
returns-clause-same c = members _ _ _ (dedup_is string_eq _ _ c.dedup.ensures.filtered) c.sort_unstable.ensures.permutation
