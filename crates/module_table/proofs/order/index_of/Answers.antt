-- What the search by the number finds.
use Rattle.std.proofs.Common.{rules}
use Rattle.std.proofs.lemmas.Fn.{always_returns_same}
use Rattle.module_table.proofs.SearchResult.{searched_found, searched_none}
use Rattle.module_table.proofs.order.index_of.Goals as goal

pub returns-clause-found : goal.returns-clause-found
returns-clause-found g c =
    rw c.ok.ensures.value
    (searched_found g.T.Keyed.number_in c.args.rows.now c.args.number c.binary_search_by_key.result c.binary_search_by_key.ensures.bound
    (c.binary_search_by_key.ensures.position g.T.Keyed.number_in (always_returns_same _ _ _ (λ a r q k. search rules))))

pub returns-clause-none : goal.returns-clause-none
returns-clause-none g c =
    rw c.ok.ensures.value
    (searched_none g.T.Keyed.number_in c.args.rows.now c.args.number c.binary_search_by_key.result c.requires
    (c.binary_search_by_key.ensures.position g.T.Keyed.number_in (always_returns_same _ _ _ (λ a r q k. search rules))))
