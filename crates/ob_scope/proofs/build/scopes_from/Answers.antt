-- The identifiers of the table are spelled as names.
use Rattle.std.proofs.Common.{List, arith, sym, subst, ◌∙◌}
use Rattle.scopes.specs.declared.members.Member.{Member}
use Rattle.ob_scope.specs.WalkOrder.{AreContiguous}
use Rattle.ob_scope.proofs.Together.{together_of}
use Rattle.module_table.specs.Tables.{rows_in}
use Rattle.ob_scope.proofs.Names.{named_by}
use Rattle.ob_scope.proofs.build.scopes_from.Goals as goal

pub check_and_build_scopes-requires-clause-named : goal.check_and_build_scopes-requires-clause-named
check_and_build_scopes-requires-clause-named c = named_by c.args.bytes.now c.args.tokens.now (rows_in c.args.table.now) c.requires.spelled.1 c.requires.rows

pub check_and_build_scopes-requires-clause-few : goal.check_and_build_scopes-requires-clause-few
check_and_build_scopes-requires-clause-few c = omega (arith, c.requires.rows.few, c.requires.in_text.few, c.requires.spelled.0)

pub check_and_build_scopes-requires-clause-together : goal.check_and_build_scopes-requires-clause-together
check_and_build_scopes-requires-clause-together c =
    let members = rw (c.decl_groups.ensures, c.declared.ensures) at (c.as_slice.ensures.value ∙ c.in_ok-members.ensures) in
    subst (λ (ms : List Member). AreContiguous (rows_in c.args.table.now).blocks ms (rows_in c.args.table.now).uses) (sym members) (together_of (rows_in c.args.table.now) c.requires.rows.blocks)
