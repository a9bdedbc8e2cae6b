-- Statements contain no record.
use Rattle.ob_tree.specs.declared.name.Qualident.{Qualident}
use Rattle.ob_tree.specs.declared.statement.StatementSequence.{StatementSequence}
use Rattle.table_rules.specs.Statements.{block_rows, qualident_rows}
use Rattle.table_rules.proofs.QuietStatements.{q-block, q-qualident}
use Rattle.table_laws.proofs.Bare.{bare, Bare}

pub b-qualident : (q : Qualident) → Bare (qualident_rows q)
b-qualident q = bare (q-qualident q)

pub b-block : (b : StatementSequence) → Bare (block_rows b)
b-block b = bare (q-block b)
