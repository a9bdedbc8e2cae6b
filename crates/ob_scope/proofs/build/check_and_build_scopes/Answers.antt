-- Duplicate members are a fault of the module.
use Rattle.module_table.specs.Tables.{rows_in}
use Rattle.ob_scope.proofs.build.check_and_build_scopes.Goals as goal

pub returns-clause-fault : goal.returns-clause-fault
returns-clause-fault c = c.in-Err.ensures.fault (rows_in c.args.table.now) c.requires.members c.requires.named
