-- The entries of expressions and designators are sorted.
use Rattle.std.proofs.Common.{ℕ, ◌+◌, List, [], ◌∷◌, map, refl}
use Rattle.ob_tree.specs.declared.expression.Expr.{Expr}
use Rattle.ob_tree.specs.declared.expression.Selector.{Selector}
use Rattle.module_table.specs.Parts.{each as pieces}
use Rattle.table_rules.specs.Expressions.{SelectorPhrase, selected, selector_rows, expr_rows}
use Rattle.table_rules.proofs.Compatible.{IsCompatible}
use Rattle.table_rules.proofs.CompatibleExpressions.{c-expr}
use Rattle.table_rules.proofs.LinedKinds.{AllOf, Kind}
use Rattle.table_rules.proofs.LinedPieces.{Ordered, o-nothing, o-token, o-both, h-both, h-before, h-with_rows, l-token, o-headed}

module _ {X : Type 0} (K : Kind X) where
  o-selectors : {Y : Type 0} (h : Y → Selector) (ys : List Y) → ((y : Y) → Ordered K (selected (h y)).piece) → Ordered K (pieces (λ s. s.piece) (map selected (map h ys)))
  o-selectors h [] w = o-nothing K
  o-selectors h (y ∷ ys) w = o-both K (w y) (o-selectors h ys w)

  all_of : (k : ℕ) (ss : List SelectorPhrase) (m : ℕ) → AllOf k (selector_rows k ss m)
  unfolding AllOf
  all_of k [] m = tt
  all_of k (s ∷ ss) m = (refl, all_of k ss (m + s.piece.width))

  -- whatever the event sequence
  pub ordered : IsCompatible (λ p o. Ordered K p) (λ s o. Ordered K s.piece)
  ordered = record {
    nothing = o-nothing K;
    a_word = λ k. o-token K;
    a_value = λ l n. o-token K;
    one_after = λ f g. o-both K f g;
    held = λ c f. f;
    a_field = λ n. o-both K (o-token K) (o-token K);
    a_selector = λ s other f. f;
    a_designator = λ w n ss. o-headed K (h-before K _ (h-before K _ (h-both K (h-with_rows K _ (l-token K)) (o-selectors _ ss (λ s. s.1)))))
        (λ c k. K.designator k _ _ _ refl (all_of k (map selected (map (λ s. s.0) ss)) (k + 1)) refl);
  }

  pub o-expr : (t : Expr) → Ordered K (expr_rows t)
  o-expr = c-expr ordered
