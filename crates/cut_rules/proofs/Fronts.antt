-- Sorted lists in a strict order, and their prefixes.
use Rattle.std.proofs.Common.{◌≡◌, suc, inl, inr, List, [], ◌∷◌, ◌++◌, length, refl, sym, ap, ap₂, ◌∙◌, subst, arith, length-append, append-nil}
use Rattle.std.specs.Prelude.{AllPairs, Contains}
use Rattle.digraph.proofs.Members.{first_member, first_or_later, later_member, no_member}

module _ {X : Type 0} (R : X → X → Type 0) (apart : (x y : X) → R x y → R y x → ⊥) where
  head_before : (x : X) (xs : List X) → AllPairs R (x ∷ xs) → (y : X) → Contains xs y → R x y
  head_before x xs up y (k, lt, is) = subst (R x) is (up 0 (suc k) y (omega arith) (omega arith))

  tail_pairs : (x : X) (xs : List X) → AllPairs R (x ∷ xs) → AllPairs R xs
  tail_pairs x xs up i j d lt l = up (suc i) (suc j) d (omega arith) (omega arith)

  heads : (x : X) (xs : List X) (y : X) (ys : List X) → AllPairs R (x ∷ xs) → AllPairs R (y ∷ ys) → Contains (y ∷ ys) x → (R y x → Contains (x ∷ xs) y) → x ≡ y
  heads x xs y ys up high among closed = elim (first_or_later y ys x among) [
    | inl same ↦ sym same
    | inr later ↦
        let before = head_before y ys high x later in
        elim (first_or_later x xs y (closed before)) [
          | inl same ↦ same
          | inr behind ↦ absurd (apart x y (head_before x xs up y behind) before)
        ]
  ]

  -- what is in a list and no head of it is after the head
  behind_head : (x : X) (xs : List X) (z : X) → Contains (x ∷ xs) z → R x z → Contains xs z
  behind_head x xs z has before = elim (first_or_later x xs z has) [
    | inl same ↦ absurd (let own : R z z = subst (λ (w : X). R w z) same before in apart z z own own)
    | inr later ↦ later
  ]

  -- the one is a front of the other, where all of it is in the other, and what comes before one of its members is in it too
  pub front_of : (xs ys : List X) → AllPairs R xs → AllPairs R ys → ((x : X) → Contains xs x → Contains ys x) → ((x y : X) → Contains xs x → Contains ys y → R y x → Contains xs y) → (rest : List X) × (ys ≡ xs ++ rest)
  front_of [] ys up high among closed = (ys, refl)
  front_of (x ∷ xs) [] up high among closed = no_member x (among x (first_member x xs x refl))
  front_of (x ∷ xs) (y ∷ ys) up high among closed =
      let same : x ≡ y = heads x xs y ys up high (among x (first_member x xs x refl)) (closed x y (first_member x xs x refl) (first_member y ys y refl)) in
      let (rest, whole) = front_of xs ys (tail_pairs x xs up) (tail_pairs y ys high)
      (λ z has. behind_head y ys z (among z (later_member x xs z has)) (subst (λ (w : X). R w z) same (head_before x xs up z has)))
      (λ z w has present less. behind_head x xs w (closed z w (later_member x xs z has) (later_member y ys w present) less) (subst (λ (v : X). R v w) (sym same) (head_before y ys high w present))) in
      (rest, ap₂ (λ (z : X) (zs : List X). z ∷ zs) (sym same) whole)

  -- with the same members they are one
  pub one_list : (xs ys : List X) → AllPairs R xs → AllPairs R ys → ((x : X) → Contains xs x → Contains ys x) → ((y : X) → Contains ys y → Contains xs y) → xs ≡ ys
  one_list xs ys up high among back =
      let (rest, whole) = front_of xs ys up high among (λ x y has present less. back y present) in
      let (more, other) = front_of ys xs high up back (λ y x has present less. among x present) in
      let long = ap length whole ∙ length-append xs rest in
      let again = ap length other ∙ length-append ys more in
      sym (whole ∙ ap (λ (l : List X). xs ++ l) (none rest (omega arith)) ∙ append-nil xs)
    where
      none : (rest : List X) → length rest ≡ 0 → rest ≡ []
      none [] e = refl
      none (x ∷ rest) e = absurd (omega arith)
