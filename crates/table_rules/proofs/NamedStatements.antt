-- The piece of a statement and its event sequence have the same tokens, and its entries name each identifier.
use Rattle.std.proofs.Common.{ℕ, refl}
use Rattle.ob_tree.specs.declared.name.Qualident.{Qualident}
use Rattle.ob_tree.specs.declared.statement.StatementSequence.{StatementSequence}
use Rattle.ob_tree.specs.TreeEvents.{used}
use Rattle.ob_tree.specs.Names.{qualident_events}
use Rattle.ob_tree.specs.Statements.{block_events}
use Rattle.table_rules.specs.Statements.{variable_rows, qualident_rows, block_rows}
use Rattle.table_rules.proofs.CompatibleStatements.{c-block}
use Rattle.table_rules.proofs.Named.{Named, n-qualified, n-use, n-with_rows}
use Rattle.table_rules.proofs.NamedExpressions.{named}

pub n-qualident : (q : Qualident) → Named (qualident_rows q) (qualident_events q)
unfolding qualident_rows qualident_events
n-qualident q = n-qualified q.member q.head

n-variable : (n : ℕ) → Named variable_rows (used n)
unfolding variable_rows
n-variable n = n-with_rows _ (λ c k. refl) (n-use n)

pub n-block : (b : StatementSequence) → Named (block_rows b) (block_events b)
n-block = c-block named n-qualident n-variable
