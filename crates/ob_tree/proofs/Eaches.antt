-- Lists of the children of a layer.
use Rattle.std.proofs.Common.{◌≡◌, ℕ, zero, suc, List, [], ◌∷◌, ◌++◌, refl, sym, ap, ◌∙◌, append_assoc, map}
use Rattle.std.proofs.lemmas.List.{append-nil}
use Rattle.ob_tree.specs.TreeEvents.{Events, each, times}

pub each-map : {X Y : Type 0} (f : Y → Events) (g : X → Y) (xs : List X) → each f (map g xs) ≡ each (λ x. f (g x)) xs
each-map f g [] = refl
each-map f g (x ∷ xs) = ap (λ (y : Events). f (g x) ++ y) (each-map f g xs)

pub each_push : {X : Type 0} (f : X → Events) (xs : List X) (x : X) → each f (xs ++ x ∷ []) ≡ each f xs ++ f x
each_push f [] x = append-nil (f x)
each_push f (y ∷ xs) x = ap (λ (o : Events). f y ++ o) (each_push f xs x) ∙ sym (append_assoc (f y) (each f xs) (f x))

pub times_more : (n : ℕ) (o : Events) → times (suc n) o ≡ times n o ++ o
times_more zero o = append-nil o
times_more (suc n) o = ap (λ (r : Events). o ++ r) (times_more n o) ∙ sym (append_assoc o (times n o) o)
