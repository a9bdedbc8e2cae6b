-- At most one occurrence is the nearest.
use Rattle.std.proofs.Common.{◌≡◌, ◌⊎◌, ℕ, zero, suc, List, [], ◌∷◌, ◌++◌, Option, Some, None, refl, sym, ap, ◌∙◌, subst, arith, inl, inr}
use Rattle.std.specs.Prelude.{Contains}
use Rattle.std.proofs.lemmas.Bool.{false≢true}
use Rattle.std.proofs.lemmas.List.Elements.{Contains-append_right}
use Rattle.index_store.specs.declared.location.Position.{Position}
use Rattle.index_store.specs.declared.span.Span.{Span}
use Rattle.index_store.specs.Queries.{PlacedOccurrence, IsNearest, IsSymbolAt, NoneCovers}

module _ {X : Type 0} where
  abbrev first_of : X → List X → X
  first_of x [] = x
  first_of x (y ∷ xs) = y

  abbrev rest_of : List X → List X
  rest_of [] = []
  rest_of (y ∷ xs) = xs

  first_in : (x y : X) (xs : List X) → y ≡ x → Contains (y ∷ xs) x
  first_in x y xs e = (zero, omega arith, e)

  later_in : (x y : X) (xs : List X) → Contains xs x → Contains (y ∷ xs) x
  later_in x y xs (k, l, e) = (suc k, omega (arith, l), e)

  among_rest : (xs ys : List X) (y : X) → Contains (xs ++ y ∷ ys) y
  among_rest xs ys y = Contains-append_right xs (y ∷ ys) y (first_in y y ys refl)

  -- two elements of a list are at one index, or the one stands before the other
  locations : (xs ys ps qs : List X) (f g : X) → xs ++ f ∷ ps ≡ ys ++ g ∷ qs → (f ≡ g) ⊎ ((Contains ys f × Contains ps g) ⊎ (Contains xs g × Contains qs f))
  locations [] [] ps qs f g e = inl (ap (first_of f) e)
  locations [] (y ∷ ys) ps qs f g e = inr (inl (first_in f y ys (sym (ap (first_of f) e)), subst (λ (zs : List X). Contains zs g) (sym (ap rest_of e)) (among_rest ys qs g)))
  locations (x ∷ xs) [] ps qs f g e = inr (inr (first_in g x xs (ap (first_of x) e), subst (λ (zs : List X). Contains zs f) (ap rest_of e) (among_rest xs ps f)))
  locations (x ∷ xs) (y ∷ ys) ps qs f g e = elim (locations xs ys ps qs f g (ap rest_of e)) [
    | inl same ↦ inl same
    | inr (inl both) ↦ inr (inl (later_in f y ys both.0, both.1))
    | inr (inr both) ↦ inr (inr (later_in g x xs both.0, both.1))
  ]

module _ (found : List PlacedOccurrence) (path : List ℕ) (at : Position) where
  one_nearest : (f g : PlacedOccurrence) (a b : Span) → IsNearest found path at f a → IsNearest found path at g b → f ≡ g
  one_nearest f g a b m n = elim (locations m.before n.before m.after n.after f g (sym m.among ∙ n.among)) [
    | inl same ↦ same
    | inr (inl both) ↦ absurd (false≢true (sym (m.latest g b both.1 n.covers) ∙ n.first f a both.0 m.covers))
    | inr (inr both) ↦ absurd (false≢true (sym (n.latest f a both.1 m.covers) ∙ m.first g b both.0 n.covers))
  ]

  covered : (f : PlacedOccurrence) (a : Span) → IsNearest found path at f a → NoneCovers found path at → ⊥
  covered f a n none = none f a (subst (λ (fs : List PlacedOccurrence). Contains fs f) (sym n.among) (among_rest n.before n.after f)) n.covers

  pub symbol_at_position_is_unique : (a b : Option (List ℕ)) → IsSymbolAt found path at a → IsSymbolAt found path at b → a ≡ b
  symbol_at_position_is_unique None None p q = refl
  symbol_at_position_is_unique None (Some s) p (g, b, n, is) = absurd (covered g b n p)
  symbol_at_position_is_unique (Some s) None (f, a, m, is) q = absurd (covered f a m q)
  symbol_at_position_is_unique (Some s) (Some t) (f, a, m, is) (g, b, n, was) = ap (λ (x : List ℕ). Some x) (sym is ∙ ap (λ (x : PlacedOccurrence). x.occurrence.symbol) (one_nearest f g a b m n) ∙ was)
