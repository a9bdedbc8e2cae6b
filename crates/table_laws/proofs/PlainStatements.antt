-- Statements declare nothing.
use Rattle.ob_tree.specs.declared.name.Qualident.{Qualident}
use Rattle.ob_tree.specs.declared.statement.StatementSequence.{StatementSequence}
use Rattle.table_rules.specs.Statements.{block_rows, qualident_rows}
use Rattle.table_rules.proofs.QuietStatements.{q-block, q-qualident}
use Rattle.table_laws.proofs.Plain.{plain, Plain}

pub b-qualident : (q : Qualident) → Plain (qualident_rows q)
b-qualident q = plain (q-qualident q)

pub b-block : (b : StatementSequence) → Plain (block_rows b)
b-block b = plain (q-block b)
