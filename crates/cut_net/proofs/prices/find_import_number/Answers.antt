use Rattle.std.proofs.Common.{sym, ◌∙◌}
use Rattle.cut_net.proofs.Noting.{no_ends, no_first, no_second, number_found}
use Rattle.cut_net.proofs.prices.find_import_number.Goals as goal

pub returns-in_err-from-clause-none : goal.returns-in_err-from-clause-none
returns-in_err-from-clause-none c = rw c.from_residual.ensures (no_first c.args.net.now c.invariants.ensures.network c.args.importer.now c.args.imported.now (sym c.index_of.ensures ∙ c.in_err-from.was))

pub returns-in_err-to-clause-none : goal.returns-in_err-to-clause-none
returns-in_err-to-clause-none c = rw c.from_residual-in_err-to.ensures (no_second c.args.net.now c.invariants.ensures.network c.args.importer.now c.args.imported.now (sym c.index_of-2.ensures ∙ c.in_err-to.was))

pub returns-clause-found : goal.returns-clause-found
returns-clause-found c =
    number_found c.args.net.now c.args.importer.now c.args.imported.now c.in_ok-from.from c.in_ok-to.to c.find_import_index.result (sym c.index_of.ensures ∙ c.in_ok-from.was) (sym c.index_of-2.ensures ∙ c.in_ok-to.was)
    (rw c.imports.ensures at c.find_import_index.ensures.within) (rw c.imports.ensures at c.find_import_index.ensures.found)

pub returns-clause-none : goal.returns-clause-none
returns-clause-none c =
    no_ends c.args.net.now c.invariants.ensures.network c.args.importer.now c.args.imported.now c.in_ok-from.from c.in_ok-to.to c.find_import_index.result (sym c.index_of.ensures ∙ c.in_ok-from.was) (sym c.index_of-2.ensures ∙ c.in_ok-to.was)
    (rw c.imports.ensures at c.find_import_index.ensures.none)
