-- Members of lists that are filtered or mapped.
use Rattle.std.proofs.Common.{◌≡◌, zero, suc, Bool, true, List, [], ◌∷◌, map, refl, sym, ap, ◌∙◌, arith, inl, inr}
use Rattle.std.specs.Prelude.{Contains, filter, ◌⊎◌}
use Rattle.std.proofs.lemmas.Bool.{cases_Bool}
use Rattle.std.proofs.lemmas.List.Elements.{Contains-append_cases, Contains-append_right}

pub one_member : {X : Type 0} (y x : X) → Contains (y ∷ []) x → y ≡ x
one_member y x (zero, lt, e) = e
one_member y x (suc k, lt, e) = absurd (omega arith)

pub first_or_later : {X : Type 0} (y : X) (xs : List X) (x : X) → Contains (y ∷ xs) x → (y ≡ x) ⊎ Contains xs x
first_or_later y xs x h =
    elim (Contains-append_cases (y ∷ []) xs x h) [
      | inl here ↦ inl (one_member y x here)
      | inr later ↦ inr later
    ]

pub first_member : {X : Type 0} (y : X) (xs : List X) (x : X) → y ≡ x → Contains (y ∷ xs) x
first_member y xs x e = (zero, omega arith, e)

pub later_member : {X : Type 0} (y : X) (xs : List X) (x : X) → Contains xs x → Contains (y ∷ xs) x
later_member y xs x h = Contains-append_right (y ∷ []) xs x h

pub no_member : {X : Type 0} {P : Type 0} (x : X) → Contains [] x → P
no_member x (k, lt, e) = absurd (omega arith)

pub in_filter : {X : Type 0} (p : X → Bool) (xs : List X) (x : X) → p x ≡ true → Contains xs x → Contains (filter p xs) x
in_filter p [] x e h = no_member x h
in_filter p (y ∷ xs) x e h =
    elim (first_or_later y xs x h) [
      | inl same ↦ let passes : p y ≡ true = ap p same ∙ e in rw passes (first_member y (filter p xs) x same)
      | inr later ↦ elim (cases_Bool (p y)) [
        | inl passes ↦ rw passes (later_member y (filter p xs) x (in_filter p xs x e later))
        | inr fails ↦ rw fails (in_filter p xs x e later)
      ]
    ]

pub from_filter : {X : Type 0} (p : X → Bool) (xs : List X) (x : X) → Contains (filter p xs) x → Contains xs x
from_filter p [] x h = no_member x h
from_filter p (y ∷ xs) x h =
    elim (cases_Bool (p y)) [
      | inl passes ↦ let g : Contains (y ∷ filter p xs) x = rw passes at h in
          elim (first_or_later y (filter p xs) x g) [
            | inl same ↦ first_member y xs x same
            | inr later ↦ later_member y xs x (from_filter p xs x later)
          ]
      | inr fails ↦ let g : Contains (filter p xs) x = rw fails at h in later_member y xs x (from_filter p xs x g)
    ]

pub in_map : {X Y : Type 0} (f : X → Y) (xs : List X) (x : X) → Contains xs x → Contains (map f xs) (f x)
in_map f [] x h = no_member x h
in_map f (y ∷ xs) x h =
    elim (first_or_later y xs x h) [
      | inl same ↦ first_member (f y) (map f xs) (f x) (ap f same)
      | inr later ↦ later_member (f y) (map f xs) (f x) (in_map f xs x later)
    ]

pub from_map : {X Y : Type 0} (f : X → Y) (xs : List X) (y : Y) → Contains (map f xs) y → (x : X) × Contains xs x × (f x ≡ y)
from_map f [] y h = no_member y h
from_map f (z ∷ xs) y h =
    elim (first_or_later (f z) (map f xs) y h) [
      | inl same ↦ (z, first_member z xs z refl, same)
      | inr later ↦ let g = from_map f xs y later in (g.0, later_member z xs g.0 g.1, g.2)
    ]

pub of_filter : {X : Type 0} (p : X → Bool) (xs : List X) (x : X) → Contains (filter p xs) x → Contains xs x × (p x ≡ true)
of_filter p [] x h = no_member x h
of_filter p (y ∷ xs) x h =
    elim (cases_Bool (p y)) [
      | inl passes ↦ let g : Contains (y ∷ filter p xs) x = rw passes at h in
          elim (first_or_later y (filter p xs) x g) [
            | inl same ↦ (first_member y xs x same, ap p (sym same) ∙ passes)
            | inr later ↦ let f = of_filter p xs x later in (later_member y xs x f.0, f.1)
          ]
      | inr fails ↦ let g : Contains (filter p xs) x = rw fails at h in let f = of_filter p xs x g in (later_member y xs x f.0, f.1)
    ]
