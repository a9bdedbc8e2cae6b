-- The entry with the index that the search finds.
use Rattle.module_table.proofs.SearchResult.{none_among, placed_is, placed_within}
use Rattle.module_table.proofs.order.find_entry.Goals as goal

pub bounds-rows-at : goal.bounds-rows-at
bounds-rows-at g c = placed_within g.T.Keyed.number_in c.args.rows.now c.args.number c.in_ok-at.at c.in_ok-at.ensures.found

pub returns-in_err-at-clause-none : goal.returns-in_err-at-clause-none
returns-in_err-at-clause-none g c = rw c.from_residual.ensures (none_among g.T.Keyed.number_in c.args.rows.now c.args.number c.in_err-at.ensures.none)

pub returns-clause-found : goal.returns-clause-found
returns-clause-found g c = (placed_is g.T.Keyed.number_in c.args.rows.now c.args.number c.in_ok-at.at c.index-rows-at.result c.in_ok-at.ensures.found c.index-rows-at.is).0

pub returns-clause-number : goal.returns-clause-number
returns-clause-number g c = (placed_is g.T.Keyed.number_in c.args.rows.now c.args.number c.in_ok-at.at c.index-rows-at.result c.in_ok-at.ensures.found c.index-rows-at.is).1
