use Rattle.std.proofs.Common.{rules, ◌∙◌}
use Rattle.std.proofs.lemmas.Fn.{always_returns_same}
use Rattle.std.proofs.lemmas.List.Sorted.{IsNonDecreasingBy-from_sort_by_key}
use Rattle.module_table.specs.declared.rows.TypePart.{TypePart}
use Rattle.ob_interface.proofs.Ranges.{filter_stable}
use Rattle.ob_interface.proofs.type_exprs.sorted_parts.Goals as goal

pub returns-clause-together : goal.returns-clause-together
returns-clause-together c = IsNonDecreasingBy-from_sort_by_key (λ (p : TypePart). p.declared_by) _ (c.in_ok-sort_by_key.ensures.sorted) (λ a r q k. search rules)

pub returns-clause-same : goal.returns-clause-same
returns-clause-same c k h =
    filter_stable _ _ k (c.in_ok-sort_by_key.ensures.stable (λ (p : TypePart). p.declared_by) (always_returns_same _ _ _ (λ a r q k. search rules))) ∙ c.in_ok-own.ensures k h
