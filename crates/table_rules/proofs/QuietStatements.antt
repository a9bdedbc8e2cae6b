-- Statements only look names up.
use Rattle.std.proofs.Common.{ℕ, None, refl}
use Rattle.ob_tree.specs.declared.name.Qualident.{Qualident}
use Rattle.ob_tree.specs.declared.statement.StatementSequence.{StatementSequence}
use Rattle.module_table.specs.Parts.{token, both}
use Rattle.table_rules.specs.Statements.{variable_rows, qualident_rows, block_rows}
use Rattle.table_rules.proofs.CompatibleStatements.{c-block}
use Rattle.table_rules.proofs.Quiet.{Quiet, q-token, q-use, q-both, q-with_rows, q-there}
use Rattle.table_rules.proofs.QuietExpressions.{quiet}

pub q-qualident : (q : Qualident) → Quiet (qualident_rows q)
unfolding qualident_rows
q-qualident q = q-both (q-use q.member) (q-there (λ m. both token token) q.member (λ m. q-both q-token q-token))

q-variable : (n : ℕ) → Quiet variable_rows
unfolding variable_rows
q-variable n = q-with_rows _ (λ c k. refl) (λ c k. refl) (q-use None)

pub q-block : (b : StatementSequence) → Quiet (block_rows b)
q-block = c-block quiet q-qualident q-variable
