-- Members of concatenated lists.
use Rattle.std.proofs.Common.{List, [], ◌∷◌, refl, subst, sym, inl, inr}
use Rattle.std.specs.Prelude.{Contains}
use Rattle.std.specs.List.{flat_map}
use Rattle.std.proofs.lemmas.List.Concat.{flat_map-cons}
use Rattle.std.proofs.lemmas.List.Elements.{Contains-append_cases, Contains-append_left, Contains-append_right}
use Rattle.digraph.proofs.Members.{first_member, first_or_later, later_member, no_member}

pub from_flat_map : {X Y : Type 0} (f : X → List Y) (xs : List X) (y : Y) → Contains (flat_map f xs) y → (x : X) × Contains xs x × Contains (f x) y
from_flat_map f [] y h = no_member y h
from_flat_map {Y} f (x ∷ xs) y h =
    elim (Contains-append_cases (f x) (flat_map f xs) y (subst (λ (l : List Y). Contains l y) (flat_map-cons f x xs) h)) [
      | inl here ↦ (x, first_member x xs x refl, here)
      | inr later ↦ let g = from_flat_map f xs y later in (g.0, later_member x xs g.0 g.1, g.2)
    ]

pub in_flat_map : {X Y : Type 0} (f : X → List Y) (xs : List X) (x : X) (y : Y) → Contains xs x → Contains (f x) y → Contains (flat_map f xs) y
in_flat_map f [] x y h part = no_member x h
in_flat_map {Y} f (z ∷ xs) x y h part =
    subst (λ (l : List Y). Contains l y) (sym (flat_map-cons f z xs)) (elim (first_or_later z xs x h) [
      | inl same ↦ Contains-append_left (f z) (flat_map f xs) y (subst (λ w. Contains (f w) y) (sym same) part)
      | inr later ↦ Contains-append_right (f z) (flat_map f xs) y (in_flat_map f xs x y later part)
    ])
