use Rattle.std.proofs.Common.{ℕ, List, subst}
use Rattle.module_table.specs.Tables.{rows_in}
use Rattle.module_table.specs.declared.rows.Import.{Import}
use Rattle.ob_scan.specs.declared.token.Token.{Token}
use Rattle.source_tree.specs.Located.{AreItemPositions}
use Rattle.source_tree.proofs.ImportSites.{has_located}
use Rattle.source_tree.proofs.import_sites.located_scopes_from_table.Goals as goal

pub item_positions-requires : goal.item_positions-requires
item_positions-requires c = rw (c.as_slice.ensures.value, c.as_slice-2.ensures) (c.tokens_in_text.ensures _ _ c.requires.spelled.1)

pub returns-clause-located : goal.returns-clause-located
returns-clause-located c =
    let (tree, is_tree, same) = c.requires.parsed in
    let positions =
    subst (λ (bs : List ℕ). AreItemPositions bs c.args.tokens.now (rows_in c.args.table.now).imports c.in_ok-items.items.items) c.as_slice.ensures.value
    (subst (λ (ts : List Token). AreItemPositions c.as_slice.result.now ts (rows_in c.args.table.now).imports c.in_ok-items.items.items) c.as_slice-2.ensures
    (subst (λ (is : List Import). AreItemPositions c.as_slice.result.now c.as_slice-2.result.now is c.in_ok-items.items.items) c.imports.ensures c.in_ok-items.ensures)) in
    has_located c.args.source.now c.args.tokens.now tree (rows_in c.args.table.now) c.requires.spelled is_tree same (record { scopes = c.in_ok-scopes.scopes; items = c.in_ok-items.items }) c.in_ok-scopes.ensures.scoped positions
