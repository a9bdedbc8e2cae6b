-- Relations of pieces to event sequences that hold of what is made of related parts.
use Rattle.std.proofs.Common.{◌≡◌, ℕ, Bool, List, [], ◌∷◌, ◌++◌, map, Option, Some, None, sym, append_assoc, subst}
use Rattle.ob_scan.specs.declared.kind.Kind.{Kind}
use Rattle.ob_tree.specs.Constructs.{Construct}
use Rattle.ob_tree.specs.Constructs as constructs
use Rattle.ob_tree.specs.declared.expression.Factor.TheOpen as layers
use Rattle.ob_tree.specs.declared.expression.Literal.{Literal}
use Rattle.ob_tree.specs.declared.expression.Selector.{Selector}
use Rattle.ob_tree.specs.declared.name.OneOrMore.{OneOrMore}
use Rattle.ob_tree.specs.TreeEvents.{Events, Value, construct, word, used, separated}
use Rattle.ob_tree.specs.TreeEvents.{if_present as outline_there, each as outline_each}
use Rattle.ob_tree.specs.Expressions.{selector_events}
use Rattle.ob_tree.proofs.ExpressionInduction.{With}
use Rattle.ob_tree.proofs.ExpressionLayers.{selector_shown}
use Rattle.module_table.specs.declared.rows.Step.TheVariants as steps
use Rattle.module_table.specs.Parts.{Fragment, nothing, token, both, if_present, each}
use Rattle.table_rules.specs.Expressions.{SelectorPhrase, each_after, selected}
use Rattle.table_rules.proofs.ExpressionLayers as told

-- a selector whose event sequence is related to what it contributes
abbrev pub IsSelector : (SelectorPhrase → Events → Type 0) → Selector → Type 0
IsSelector S s = S (selected s) (selector_events s)

-- a selector that is no dot and name
pub record IsNoField (s : SelectorPhrase) : Type 0 where
  pub name : s.name ≡ None
  pub step : (k n : ℕ) → s.step k ≡ steps.Field n → ⊥

-- R relates the piece of a part to its event sequence, S what a selector contributes to its event sequence
pub record IsCompatible (R : Fragment → Events → Type 0) (S : SelectorPhrase → Events → Type 0) : Type 0 where
  pub nothing : R nothing []
  pub a_word : (k : Kind) → R token (word k)
  pub a_value : (l : Literal) (n : ℕ) → R token (Value l n ∷ [])
  pub one_after : {p q : Fragment} {a b : Events} → R p a → R q b → R (both p q) (a ++ b)
  pub held : (c : Construct) {p : Fragment} {o : Events} → R p o → R p (construct c o)
  pub a_field : (n : ℕ) → S (told.selector_shown (layers.Field n)) (construct constructs.Selector (selector_shown (layers.Field n)))
  pub a_selector : (s : SelectorPhrase) {o : Events} → IsNoField s → R s.piece o → S s o
  pub a_designator : (w : Bool) (n : ℕ) (ss : List (With (IsSelector S))) →
      R (told.selectors_shown w (map selected (map (λ s. s.0) ss))) (used n ++ outline_each selector_events (map (λ s. s.0) ss))

module _ {R : Fragment → Events → Type 0} {S : SelectorPhrase → Events → Type 0} (c : IsCompatible R S) where
  pub c-there : {X : Type 0} (f : X → Fragment) (g : X → Events) (o : Option X) → ((x : X) → R (f x) (g x)) → R (if_present f o) (outline_there g o)
  c-there f g None w = c.nothing
  c-there f g (Some x) w = w x

  pub c-each : {X : Type 0} (f : X → Fragment) (g : X → Events) (xs : List X) → ((x : X) → R (f x) (g x)) → R (each f xs) (outline_each g xs)
  c-each f g [] w = c.nothing
  c-each f g (x ∷ xs) w = c.one_after (w x) (c-each f g xs w)

  pub c-map : {X Y : Type 0} (f : Y → Fragment) (g : Y → Events) (h : X → Y) (xs : List X) → ((x : X) → R (f (h x)) (g (h x))) → R (each f (map h xs)) (outline_each g (map h xs))
  c-map f g h [] w = c.nothing
  c-map f g h (x ∷ xs) w = c.one_after (w x) (c-map f g h xs w)

  pub c-separated : {X : Type 0} (k : Kind) (f : X → Fragment) (g : X → Events) (l : OneOrMore X) → ((x : X) → R (f x) (g x)) → R (both (f l.first) (each_after f l.rest.items)) (separated k g l)
  c-separated k f g l w = c.one_after (w l.first) (c-each (λ x. both token (f x)) (λ x. word k ++ g x) l.rest.items (λ x. c.one_after (c.a_word k) (w x)))

  pub c-three : {p q r : Fragment} {a b o : Events} → R p a → R q b → R r o → R (both p (both q r)) ((a ++ b) ++ o)
  c-three {p} {q} {r} {a} {b} {o} f g h = subst (R (both p (both q r))) (sym (append_assoc a b o)) (c.one_after f (c.one_after g h))

-- a relation at what is equal to related parts
pub related-is : {X : Type 0} (Q : X → Events → Type 0) {x y : X} {a b : Events} → x ≡ y → a ≡ b → Q y b → Q x a
related-is {X} Q {x} {y} {a} {b} e f q = subst (λ (z : X). Q z a) (sym e) (subst (λ (o : Events). Q y o) (sym f) q)
