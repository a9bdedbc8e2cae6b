-- Sorted by the symbols, each once.
use Rattle.std.proofs.Common.{◌≡◌, ap, rules}
use Rattle.std.specs.Ordering.{is_lt}
use Rattle.std.specs.String.{string_cmp_total}
use Rattle.std.proofs.lemmas.Fn.{always_returns_same, dedup_same}
use Rattle.std.proofs.lemmas.List.Sorted.{ranks_by}
use Rattle.scip_index.specs.declared.index.SymbolInfo.{SymbolInfo}
use Rattle.ob_emit.proofs.ExternalOrder.{in_order, symbol_cmp, symbol_eq}
use Rattle.ob_emit.proofs.external_symbols.sort_and_dedup.Goals as goal

pub returns : goal.returns
returns c =
    in_order c.args.rows.now.items c.sort_unstable_by.new.self.items c.dedup_by.new.self.items c.requires c.sort_unstable_by.ensures.permutation
    (dedup_same _ symbol_eq _ (λ x y b f' x' y' k. search rules) _ _ c.dedup_by.ensures.filtered)
    (c.sort_unstable_by.ensures.sorted (λ (a b : SymbolInfo). is_lt (symbol_cmp a b)) (ranks_by string_cmp_total (λ (s : SymbolInfo). s.symbol))
    (always_returns_same _ _ _ (λ a r q h. let e : r ≡ symbol_cmp a.0.now a.1.0.now = search rules in (ap is_lt e, search rules))))
