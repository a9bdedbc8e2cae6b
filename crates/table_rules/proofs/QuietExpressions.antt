-- Expressions only look names up.
use Rattle.std.proofs.Common.{List, [], ◌∷◌, map, refl}
use Rattle.ob_tree.specs.declared.expression.Expr.{Expr}
use Rattle.ob_tree.specs.declared.expression.Selector.{Selector}
use Rattle.module_table.specs.Parts.{each as pieces}
use Rattle.table_rules.specs.Expressions.{selected, expr_rows}
use Rattle.table_rules.proofs.Compatible.{IsCompatible}
use Rattle.table_rules.proofs.CompatibleExpressions.{c-expr}
use Rattle.table_rules.proofs.Quiet.{Quiet, q-nothing, q-token, q-use, q-both, q-with_rows}

q-selectors : {X : Type 0} (h : X → Selector) (xs : List X) → ((x : X) → Quiet (selected (h x)).piece) → Quiet (pieces (λ s. s.piece) (map selected (map h xs)))
q-selectors h [] w = q-nothing
q-selectors h (x ∷ xs) w = q-both (w x) (q-selectors h xs w)

-- whatever the event sequence
pub quiet : IsCompatible (λ p o. Quiet p) (λ s o. Quiet s.piece)
quiet = record {
  nothing = q-nothing;
  a_word = λ k. q-token;
  a_value = λ l n. q-token;
  one_after = λ f g. q-both f g;
  held = λ c f. f;
  a_field = λ n. q-both q-token q-token;
  a_selector = λ s other f. f;
  a_designator = λ w n ss. q-with_rows _ (λ c k. refl) (λ c k. refl) (q-with_rows _ (λ c k. refl) (λ c k. refl) (q-both (q-use _) (q-selectors _ ss (λ s. s.1))));
}

pub q-expr : (t : Expr) → Quiet (expr_rows t)
q-expr = c-expr quiet
