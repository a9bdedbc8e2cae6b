use Rattle.std.proofs.Common.{rules}
use Rattle.std.proofs.lemmas.Fn.{always_returns_same}
use Rattle.std.proofs.lemmas.List.Filters.{dedup_is}
use Rattle.digraph.proofs.EdgeOrder.{ends_of, edges_ascend, edges_same, same_edge}
use Rattle.digraph.proofs.ranks.sort_and_dedup.Goals as goal

pub returns-clause-ascending : goal.returns-clause-ascending
returns-clause-ascending c = edges_ascend _ _ (dedup_is same_edge _ _ c.dedup.ensures.filtered) (c.sort_unstable_by_key.ensures.sorted ends_of (always_returns_same _ _ _ (λ a r q k. search rules)))

pub returns-clause-same : goal.returns-clause-same
returns-clause-same c = edges_same _ _ _ (dedup_is same_edge _ _ c.dedup.ensures.filtered) c.sort_unstable_by_key.ensures.permutation
