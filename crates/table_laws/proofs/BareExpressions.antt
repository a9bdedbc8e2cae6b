-- Expressions contain no record.
use Rattle.ob_tree.specs.declared.expression.Expr.{Expr}
use Rattle.table_rules.specs.Expressions.{expr_rows}
use Rattle.table_rules.proofs.QuietExpressions.{q-expr}
use Rattle.table_laws.proofs.Bare.{bare, Bare}

pub b-expr : (e : Expr) → Bare (expr_rows e)
b-expr e = bare (q-expr e)
