-- The entries of statements are sorted.
use Rattle.std.proofs.Common.{ℕ, refl}
use Rattle.ob_tree.specs.declared.name.Qualident.{Qualident}
use Rattle.ob_tree.specs.declared.statement.StatementSequence.{StatementSequence}
use Rattle.module_table.specs.Parts.{token, both}
use Rattle.table_rules.specs.Expressions.{use_row}
use Rattle.table_rules.specs.Statements.{variable_rows, qualident_rows, block_rows}
use Rattle.table_rules.proofs.CompatibleStatements.{c-block}
use Rattle.table_rules.proofs.LinedKinds.{Kind}
use Rattle.table_rules.proofs.LinedPieces.{Headed, Ordered, o-token, o-use, o-both, o-there, h-both, h-before, h-with_rows, l-token, o-headed}
use Rattle.table_rules.proofs.LinedExpressions.{ordered}

module _ {X : Type 0} (K : Kind X) where
  -- the use at its first token
  pub h-qualident : (q : Qualident) → Headed K (λ c k. K.of (use_row q.member c k)) (qualident_rows q)
  unfolding qualident_rows
  h-qualident q = h-both K (h-with_rows K _ (l-token K)) (o-there K (λ m. both token token) q.member (λ m. o-both K (o-token K) (o-token K)))

  pub o-qualident : (q : Qualident) → Ordered K (qualident_rows q)
  unfolding qualident_rows
  o-qualident q = o-both K (o-use K q.member) (o-there K (λ m. both token token) q.member (λ m. o-both K (o-token K) (o-token K)))

  o-variable : (n : ℕ) → Ordered K variable_rows
  unfolding variable_rows
  o-variable n = o-headed K (h-before K _ (h-with_rows K _ (l-token K))) (λ c k. K.variable k _ _ refl refl)

  pub o-block : (b : StatementSequence) → Ordered K (block_rows b)
  o-block = c-block (ordered K) o-qualident o-variable
