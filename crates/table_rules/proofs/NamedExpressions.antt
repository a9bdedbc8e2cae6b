-- The piece of an expression and its event sequence have the same tokens, and its entries name each identifier.
use Rattle.std.proofs.Common.{ℕ, List, [], ◌∷◌, map, refl}
use Rattle.ob_tree.specs.Constructs as constructs
use Rattle.ob_tree.specs.declared.expression.Expr.{Expr}
use Rattle.ob_tree.specs.declared.expression.Selector.{Selector}
use Rattle.ob_tree.specs.TreeEvents.{Events, each}
use Rattle.ob_tree.specs.Expressions.{selector_events, expr_events}
use Rattle.module_table.specs.Parts.{with_rows}
use Rattle.module_table.specs.Parts.{each as pieces}
use Rattle.table_rules.specs.Expressions.{SelectorPhrase, selected, designator_row, expr_rows}
use Rattle.table_rules.proofs.Compatible.{IsCompatible, IsSelector}
use Rattle.table_rules.proofs.CompatibleExpressions.{c-expr}
use Rattle.table_rules.proofs.Named.{Named, n-nothing, n-word, n-value, n-both, n-held, n-field, n-other, n-none, n-more, n-designated, rows_from, selector_row, HasNameStep, FirstHasNameStep}

-- a selector with its entry, in any designator
abbrev NamedSelector : SelectorPhrase → Events → Type 0
NamedSelector s o = HasNameStep s × ((head : ℕ) → Named (with_rows (selector_row head s) s.piece) o)

n-selectors : {X : Type 0} (h : X → Selector) (xs : List X) → ((x : X) → IsSelector NamedSelector (h x)) → (head : ℕ) →
    Named (with_rows (rows_from head (map selected (map h xs))) (pieces (λ s. s.piece) (map selected (map h xs)))) (each selector_events (map h xs))
n-selectors h [] w head = n-none head
n-selectors h (x ∷ xs) w head = n-more head (selected (h x)) (map selected (map h xs)) ((w x).1 head) (n-selectors h xs w head)

first_name_step : {X : Type 0} (h : X → Selector) (xs : List X) → ((x : X) → IsSelector NamedSelector (h x)) → FirstHasNameStep (map selected (map h xs))
first_name_step h [] w = tt
first_name_step h (x ∷ xs) w = (w x).0

pub named : IsCompatible Named NamedSelector
named = record {
  nothing = n-nothing;
  a_word = n-word;
  a_value = n-value;
  one_after = λ f g. n-both f g;
  held = λ c f. n-held c f;
  a_field = λ n. (λ m k e. refl, λ head. n-held constructs.Selector (n-field head n));
  a_selector = λ s other f. (λ m k e. absurd (let g = other.name in cc), λ head. n-other head s other f);
  a_designator = λ w n ss. n-designated (designator_row w) _ n (λ c k. refl) (first_name_step _ ss (λ s. s.1)) (n-selectors _ ss (λ s. s.1));
}

pub n-expr : (t : Expr) → Named (expr_rows t) (expr_events t)
n-expr = c-expr named
