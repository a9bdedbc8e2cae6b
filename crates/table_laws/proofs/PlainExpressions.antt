-- Expressions declare nothing.
use Rattle.ob_tree.specs.declared.expression.Expr.{Expr}
use Rattle.table_rules.specs.Expressions.{expr_rows}
use Rattle.table_rules.proofs.QuietExpressions.{q-expr}
use Rattle.table_laws.proofs.Plain.{plain, Plain}

pub b-expr : (e : Expr) → Plain (expr_rows e)
b-expr e = plain (q-expr e)
