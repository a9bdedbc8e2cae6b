-- Values collected from the events of a sequence, in order.
use Rattle.std.proofs.Common.{◌≡◌, ℕ, List, [], ◌∷◌, ◌++◌, sym, ap, ◌∙◌, append_assoc}
use Rattle.std.proofs.lemmas.List.{append-nil}
use Rattle.ob_scan.specs.declared.kind.Kind.{Kind}
use Rattle.ob_tree.specs.Constructs.{Construct}
use Rattle.ob_tree.specs.declared.expression.Literal.{Literal}
use Rattle.ob_tree.specs.TreeEvents.{Events, TreeEvent, Begins, Ends, Value, construct, word, used, completed, selected, each}
use Rattle.ob_tree.proofs.Closed.{IsClosed}
use Rattle.ob_tree.proofs.Eaches.{each_push}

-- a function that collects a list from each event, and nothing from a token that neither declares nor repeats a name
pub record Gathers {A : Type 0} (f : Events → List A) : Type 0 where
  pub nothing : f [] ≡ []
  pub more : (m : TreeEvent) (ms : Events) → f (m ∷ ms) ≡ f (m ∷ []) ++ f ms
  pub of_begin : (c : Construct) (n : ℕ) → f (Begins c n ∷ []) ≡ []
  pub of_end : (c : Construct) → f (Ends c ∷ []) ≡ []
  pub of_word : (k : Kind) → f (word k) ≡ []
  pub of_value : (k : Literal) (n : ℕ) → f (Value k n ∷ []) ≡ []
  pub of_use : (n : ℕ) → f (used n) ≡ []
  pub of_completion : (n : ℕ) → f (completed n) ≡ []
  pub of_selection : (n : ℕ) → f (selected n) ≡ []

-- nothing is collected from it
pub record Without {A : Type 0} (f : Events → List A) (o : Events) : Type 0 where
  pub none : f o ≡ []

module _ {A : Type 0} (f : Events → List A) (gathers : Gathers f) where
  pub gathered-append : (a b : Events) → f (a ++ b) ≡ f a ++ f b
  gathered-append [] b = ap (λ (xs : List A). xs ++ f b) (sym gathers.nothing)
  gathered-append (m ∷ a) b =
      gathers.more m (a ++ b) ∙ ap (λ (xs : List A). f (m ∷ []) ++ xs) (gathered-append a b)
      ∙ sym (append_assoc (f (m ∷ [])) (f a) (f b)) ∙ ap (λ (xs : List A). xs ++ f b) (sym (gathers.more m a))

  -- a sequence from which nothing is collected, before or after another one

  pub gathered-past : (a b : Events) → Without f a → f (a ++ b) ≡ f b
  gathered-past a b p = gathered-append a b ∙ ap (λ (xs : List A). xs ++ f b) p.none

  pub gathered-before : (a b : Events) → Without f b → f (a ++ b) ≡ f a
  gathered-before a b p = gathered-append a b ∙ ap (λ (xs : List A). f a ++ xs) p.none ∙ append-nil (f a)

  pub gathered-construct : (c : Construct) (o : Events) → f (construct c o) ≡ f o
  unfolding construct
  gathered-construct c o =
      gathered-past (Begins c _ ∷ []) (o ++ Ends c ∷ []) (record { none = gathers.of_begin c _ })
      ∙ gathered-before o (Ends c ∷ []) (record { none = gathers.of_end c })

  pub without : IsClosed (Without f)
  without = record {
    nothing = record { none = gathers.nothing };
    one_after = λ a b p q. record { none = gathered-past a b p ∙ q.none };
    a_word = λ k. record { none = gathers.of_word k };
    a_value = λ k n. record { none = gathers.of_value k n };
    a_use = λ n. record { none = gathers.of_use n };
    a_completion = λ n. record { none = gathers.of_completion n };
    a_selection = λ n. record { none = gathers.of_selection n };
    held = λ c o p. record { none = gathered-construct c o ∙ p.none };
  }

  pub gathered-each_push : {X : Type 0} (g : X → Events) (xs : List X) (x : X) → f (each g (xs ++ x ∷ [])) ≡ f (each g xs) ++ f (g x)
  gathered-each_push g xs x = ap f (each_push g xs x) ∙ gathered-append (each g xs) (g x)
