use Rattle.std.proofs.Common.{ℕ, List, map, sym, subst}
use Rattle.ob_emit.specs.Externals.{AreExternalRows}
use Rattle.std.specs.String.{string_bytes}
use Rattle.scip_index.specs.Plain.{index_model, SymbolModel}
use Rattle.ob_board.specs.Entries.{entry_model}
use Rattle.ob_board.specs.Indexes.{IsBuiltFrom}
use Rattle.ob_board.proofs.EntryHanding.{externals_of_tree, index_told, same_externals}
use Rattle.ob_board.proofs.indexing.index_tree.Goals as goal

pub assemble_index-requires : goal.assemble_index-requires
assemble_index-requires g c = subst (λ (rows : List SymbolModel). AreExternalRows rows) (sym (same_externals c.in_ok-entries.entries.items))
    (externals_of_tree c.args.sources.now _ (map entry_model c.in_ok-entries.entries.items) c.in_ok-entries.ensures.exact)

pub returns-clause-exact : goal.returns-clause-exact
returns-clause-exact g c =
    index_told c.args.sources.now (string_bytes c.args.options.now.package) (string_bytes c.args.options.now.root) (map entry_model c.in_ok-entries.entries.items) (index_model c.in_ok-index.index) c.in_ok-entries.ensures.exact
    (subst (λ (root : List ℕ). IsBuiltFrom (map entry_model c.in_ok-entries.entries.items) root (index_model c.in_ok-index.index)) c.as_str.ensures.value c.in_ok-index.ensures)
