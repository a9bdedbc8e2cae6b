-- The symbol information of the first uses is that of all references, sorted.
use Rattle.std.proofs.Common.{sym, subst, map, List}
use Rattle.scip_index.specs.Plain.{symbol_model, SymbolModel}
use Rattle.ob_emit.specs.Externals.{AreExternalRows, AreExternals, externals_in}
use Rattle.ob_emit.specs.StoredTexts.{CoverExternals}
use Rattle.ob_emit.proofs.ExternalOrder.{rows_stay}
use Rattle.ob_emit.proofs.ExternalTexts.{rows_told}
use Rattle.ob_emit.proofs.FirstUses.{kept_named, of_all}
use Rattle.ob_emit.proofs.external_symbols.externals.Goals as goal

pub external_symbol_infos-requires-clause-of_names : goal.external_symbol_infos-requires-clause-of_names
external_symbol_infos-requires-clause-of_names c =
    let enough = subst (CoverExternals c.args.view.now c.args.refs.now) (sym c.as_slice.ensures.value) c.in_ok-uses.ensures in
    kept_named c.args.view.now c.args.refs.now c.as_slice.result.now enough c.requires.of_names

pub sort_and_dedup-requires : goal.sort_and_dedup-requires
sort_and_dedup-requires c =
    let w = c.args.view.now in
    let enough = subst (CoverExternals w c.args.refs.now) (sym c.as_slice.ensures.value) c.in_ok-uses.ensures in
    subst AreExternalRows (sym c.in_ok-rows.ensures) (rows_told w c.requires.named c.as_slice.result.now (kept_named w c.args.refs.now c.as_slice.result.now enough c.requires.of_names))

pub returns-clause-exact : goal.returns-clause-exact
returns-clause-exact c =
    let w = c.args.view.now in
    let enough = subst (CoverExternals w c.args.refs.now) (sym c.as_slice.ensures.value) c.in_ok-uses.ensures in
    of_all w c.args.refs.now c.as_slice.result.now enough (map symbol_model c.sort_and_dedup.new.rows.items)
    (subst (λ (rows : List SymbolModel). AreExternals rows (map symbol_model c.sort_and_dedup.new.rows.items)) c.in_ok-rows.ensures c.sort_and_dedup.ensures)

pub returns-clause-rows : goal.returns-clause-rows
returns-clause-rows c =
    let w = c.args.view.now in
    let enough = subst (CoverExternals w c.args.refs.now) (sym c.as_slice.ensures.value) c.in_ok-uses.ensures in
    rows_stay (externals_in w c.args.refs.now) (map symbol_model c.sort_and_dedup.new.rows.items)
    (of_all w c.args.refs.now c.as_slice.result.now enough (map symbol_model c.sort_and_dedup.new.rows.items)
    (subst (λ (rows : List SymbolModel). AreExternals rows (map symbol_model c.sort_and_dedup.new.rows.items)) c.in_ok-rows.ensures c.sort_and_dedup.ensures))
    (rows_told w c.requires.named c.args.refs.now c.requires.of_names)
