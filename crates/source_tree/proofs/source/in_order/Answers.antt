use Rattle.std.proofs.Common.{rules, refl}
use Rattle.std.specs.Ordering.{is_lt}
use Rattle.std.specs.String.{string_bytes, string_cmp}
use Rattle.std.proofs.lemmas.Fn.{always_returns_same}
use Rattle.source_tree.proofs.InOrder.{ascend_both_ways}
use Rattle.source_tree.proofs.source.in_order.Goals as goal

pub returns : goal.returns
returns c = ascend_both_ways (λ s. string_bytes s.path) c.args.sources.now c.is_sorted_by.result
    (c.is_sorted_by.ensures.cases (λ x y. is_lt (string_cmp x.path y.path)) (always_returns_same _ _ _ (λ a r f called. (search rules, refl))))
