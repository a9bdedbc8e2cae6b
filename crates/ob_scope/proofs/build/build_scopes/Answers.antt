-- The members are those of the entries.
use Rattle.module_table.specs.Tables.{rows_in}
use Rattle.ob_scope.proofs.Placing.{members_ascend}
use Rattle.ob_scope.proofs.build.build_scopes.Goals as goal

pub resolve_uses-requires-clause-members : goal.resolve_uses-requires-clause-members
resolve_uses-requires-clause-members c = rw c.requires.members (members_ascend (rows_in c.args.table.now).decl_groups (rows_in c.args.table.now).declared c.requires.ordered.declared)
