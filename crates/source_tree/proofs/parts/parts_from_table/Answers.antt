use Rattle.std.proofs.Common.{ℕ, List, subst}
use Rattle.module_table.specs.Tables.{rows_in}
use Rattle.module_table.specs.Parts.{Rows}
use Rattle.ob_scan.specs.declared.token.Token.{Token}
use Rattle.scopes.specs.Scoped.{AreScopes}
use Rattle.ob_scope.specs.Faults.{IsScopeFault}
use Rattle.source_tree.proofs.TreeRows.{tree_rows_of}
use Rattle.source_tree.proofs.parts.parts_from_table.Goals as goal

pub scopes_from-requires-clause-in_text : goal.scopes_from-requires-clause-in_text
scopes_from-requires-clause-in_text c = rw (c.as_slice.ensures, c.as_slice-2.ensures.value) (c.tokens_in_text.ensures _ _ c.requires.spelled.1)

pub scopes_from-requires-clause-spelled : goal.scopes_from-requires-clause-spelled
scopes_from-requires-clause-spelled c = rw (c.as_slice.ensures, c.as_slice-2.ensures.value) c.requires.spelled

pub scopes_from-requires-clause-rows : goal.scopes_from-requires-clause-rows
scopes_from-requires-clause-rows c =
    let (tree, is_tree, same) = c.requires.parsed in
    tree_rows_of c.args.tokens c.as_slice.result.now (rows_in c.args.table) tree c.as_slice.ensures same (c.tree_table_is_valid.ensures _ tree is_tree.tree.derived)

pub parts_from_scopes-requires-clause-scoped : goal.parts_from_scopes-requires-clause-scoped
parts_from_scopes-requires-clause-scoped c =
    let rows = rows_in c.args.table in
    subst (λ (bytes : List ℕ). AreScopes bytes c.args.tokens rows c.in-Ok.scopes) c.as_slice-2.ensures.value
    (subst (λ (ts : List Token). AreScopes c.as_slice-2.result.now ts rows c.in-Ok.scopes) c.as_slice.ensures c.in-Ok.ensures.scoped)

pub locate_scope_fault-requires : goal.locate_scope_fault-requires
locate_scope_fault-requires c =
    let (tree, is_tree, same) = c.requires.parsed in (
      c.args.tokens,
      tree,
      c.requires.spelled,
      is_tree,
      subst (λ (rows : Rows). IsScopeFault c.args.source.now.bytes.items c.args.tokens rows c.in-Err.fault) same
          (subst (λ (bytes : List ℕ). IsScopeFault bytes c.args.tokens (rows_in c.args.table) c.in-Err.fault) c.as_slice-2.ensures.value
          (subst (λ (ts : List Token). IsScopeFault c.as_slice-2.result.now ts (rows_in c.args.table) c.in-Err.fault) c.as_slice.ensures c.in-Err.ensures.fault)),
    )
