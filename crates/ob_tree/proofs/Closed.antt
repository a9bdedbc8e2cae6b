-- A property of event sequences holds for a tree if it holds for single events and is closed under concatenation and constructs.
use Rattle.std.proofs.Common.{◌≡◌, ℕ, zero, suc, Bool, true, false, List, [], ◌∷◌, ◌++◌, map, Option, Some, None, sym, subst}
use Rattle.ob_scan.specs.declared.kind.Kind.{Kind}
use Rattle.ob_tree.specs.Constructs.{Construct}
use Rattle.ob_tree.specs.declared.expression.Literal.{Literal}
use Rattle.ob_tree.specs.declared.name.OneOrMore.{OneOrMore}
use Rattle.ob_tree.specs.TreeEvents.{Events, Value, construct, word, used, completed, selected, if_present, if_true, each, separated, times}

-- it holds for the empty sequence, concatenations, a token that neither declares nor repeats a name, and constructs
pub record IsClosed (P : Events → Type 0) : Type 0 where
  pub nothing : P []
  pub one_after : (a b : Events) → P a → P b → P (a ++ b)
  pub a_word : (k : Kind) → P (word k)
  pub a_value : (k : Literal) (n : ℕ) → P (Value k n ∷ [])
  pub a_use : (n : ℕ) → P (used n)
  pub a_completion : (n : ℕ) → P (completed n)
  pub a_selection : (n : ℕ) → P (selected n)
  pub held : (c : Construct) (o : Events) → P o → P (construct c o)

module _ (P : Events → Type 0) (closed : IsClosed P) where
  pub closed-both : {a b : Events} → P a → P b → P (a ++ b)
  closed-both {a} {b} p q = closed.one_after a b p q

  pub closed-is : {o a : Events} → o ≡ a → P a → P o
  closed-is e p = subst P (sym e) p

  pub closed-construct : (c : Construct) {o : Events} → P o → P (construct c o)
  closed-construct c {o} p = closed.held c o p

  pub closed-there : {X : Type 0} (f : X → Events) (o : Option X) → ((x : X) → P (f x)) → P (if_present f o)
  closed-there f None w = closed.nothing
  closed-there f (Some x) w = w x

  pub closed-so : (b : Bool) {o : Events} → P o → P (if_true b o)
  closed-so true w = w
  closed-so false w = closed.nothing

  pub closed-times : (n : ℕ) {o : Events} → P o → P (times n o)
  closed-times zero w = closed.nothing
  closed-times (suc n) w = closed-both w (closed-times n w)

  pub closed-each : {X : Type 0} (f : X → Events) (xs : List X) → ((x : X) → P (f x)) → P (each f xs)
  closed-each f [] w = closed.nothing
  closed-each f (x ∷ xs) w = closed-both (w x) (closed-each f xs w)

  pub closed-map : {X Y : Type 0} (f : Y → Events) (g : X → Y) (xs : List X) → ((x : X) → P (f (g x))) → P (each f (map g xs))
  closed-map f g [] w = closed.nothing
  closed-map f g (x ∷ xs) w = closed-both (w x) (closed-map f g xs w)

  pub closed-separated : {X : Type 0} (k : Kind) (f : X → Events) (l : OneOrMore X) → ((x : X) → P (f x)) → P (separated k f l)
  closed-separated k f l w = closed-both (w l.first) (closed-each (λ x. word k ++ f x) l.rest.items (λ x. closed-both (closed.a_word k) (w x)))
