use Rattle.std.proofs.Common.{ℕ, List, refl, subst}
use Rattle.std.specs.String.{string_bytes}
use Rattle.module_table.specs.Tables.{rows_in}
use Rattle.module_table.specs.Parts.{Rows}
use Rattle.ob_scan.specs.declared.token.Token.{Token}
use Rattle.scopes.specs.Scoped.{AreScopes}
use Rattle.ob_scope.specs.Faults.{IsScopeFault}
use Rattle.source_tree.proofs.TreeRows.{tree_rows_of}
use Rattle.source_tree.proofs.front_end.scopes_from_table.Goals as goal

pub scopes_from-requires-clause-in_text : goal.scopes_from-requires-clause-in_text
scopes_from-requires-clause-in_text c = rw (c.as_slice.ensures, c.as_slice-2.ensures.value) (c.tokens_in_text.ensures _ _ c.requires.spelled.1)

pub scopes_from-requires-clause-spelled : goal.scopes_from-requires-clause-spelled
scopes_from-requires-clause-spelled c = rw (c.as_slice.ensures, c.as_slice-2.ensures.value) c.requires.spelled

pub scopes_from-requires-clause-rows : goal.scopes_from-requires-clause-rows
scopes_from-requires-clause-rows c =
    let (tree, is_tree, same) = c.requires.parsed in
    tree_rows_of c.args.tokens.now c.as_slice.result.now (rows_in c.args.table.now) tree c.as_slice.ensures same (c.tree_table_is_valid.ensures _ tree is_tree.tree.derived)

pub returns-in-Ok-clause-scoped : goal.returns-in-Ok-clause-scoped
returns-in-Ok-clause-scoped c =
    let source = c.args.source.now in
    let ts = c.args.tokens.now in
    let (tree, is_tree, same) = c.requires.parsed in
    let scoped =
    subst (λ (rows : Rows). AreScopes source.bytes.items ts rows c.in-Ok.scopes) same
    (subst (λ (bytes : List ℕ). AreScopes bytes ts (rows_in c.args.table.now) c.in-Ok.scopes) c.as_slice-2.ensures.value
    (subst (λ (tokens : List Token). AreScopes c.as_slice-2.result.now tokens (rows_in c.args.table.now) c.in-Ok.scopes) c.as_slice.ensures c.in-Ok.ensures.scoped)) in (
      record { path = string_bytes source.path; bytes = source.bytes.items; tokens = ts; tree = tree },
      record { path_is = refl; bytes_are = refl; reads = c.requires.spelled; is_tree = is_tree; once = scoped.once },
      scoped,
    )

pub locate_scope_fault-requires : goal.locate_scope_fault-requires
locate_scope_fault-requires c =
    let (tree, is_tree, same) = c.requires.parsed in (
      c.args.tokens.now,
      tree,
      c.requires.spelled,
      is_tree,
      subst (λ (rows : Rows). IsScopeFault c.args.source.now.bytes.items c.args.tokens.now rows c.in-Err.fault) same
          (subst (λ (bytes : List ℕ). IsScopeFault bytes c.args.tokens.now (rows_in c.args.table.now) c.in-Err.fault) c.as_slice-2.ensures.value
          (subst (λ (ts : List Token). IsScopeFault c.as_slice-2.result.now ts (rows_in c.args.table.now) c.in-Err.fault) c.as_slice.ensures c.in-Err.ensures.fault)),
    )
