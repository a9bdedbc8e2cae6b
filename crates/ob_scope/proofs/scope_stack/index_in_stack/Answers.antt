-- The result of the binary search.
use Rattle.std.proofs.Common.{ℕ, rules}
use Rattle.std.proofs.lemmas.Fn.{always_returns_same}
use Rattle.module_table.proofs.SearchResult.{searched_found, searched_none}
use Rattle.ob_scope.proofs.scope_stack.index_in_stack.Goals as goal

pub returns-clause-found : goal.returns-clause-found
returns-clause-found c =
    rw c.ok.ensures.value
    (searched_found (λ (b : ℕ). b) c.args.stack.now c.args.block c.binary_search_by_key.result c.binary_search_by_key.ensures.bound
    (c.binary_search_by_key.ensures.position (λ (b : ℕ). b) (always_returns_same _ _ _ (λ a r q k. search rules))))

pub returns-clause-none : goal.returns-clause-none
returns-clause-none c =
    rw c.ok.ensures.value
    (searched_none (λ (b : ℕ). b) c.args.stack.now c.args.block c.binary_search_by_key.result c.requires
    (c.binary_search_by_key.ensures.position (λ (b : ℕ). b) (always_returns_same _ _ _ (λ a r q k. search rules))))
