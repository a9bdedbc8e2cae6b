-- Identifiers that denote nothing, among the references.
use Rattle.std.proofs.Common.{◌≡◌, ℕ, zero, suc, ◌⊎◌, inl, inr, List, [], ◌∷◌, map, Bool, true, false, cond, refl, sym, ap, ◌∙◌, subst, arith}
use Rattle.std.specs.List.{Contains, filter}
use Rattle.std.specs.Prelude.{◌↔◌}
use Rattle.std.proofs.lemmas.List.Elements.{All-contains}
use Rattle.ob_view.specs.World.{World}
use Rattle.ob_view.specs.declared.target.Reference.{Reference}
use Rattle.ob_view.specs.declared.target.Target.{Target}
use Rattle.ob_view.specs.declared.target.Target.TheVariants as targets
use Rattle.ob_targets.specs.Refers.{identifiers, unresolved, AreReferences, Refers, DenotesNothing}
use Rattle.ob_view.specs.TargetKinds.{is_unresolved}
use Rattle.ob_targets.proofs.Referred.{target_once}

in_head : {X : Type 0} (x : X) (xs : List X) → Contains (x ∷ xs) x
in_head x xs = (zero, omega arith, refl)

in_tail : {X : Type 0} (y : X) (xs : List X) (x : X) → Contains xs x → Contains (y ∷ xs) x
in_tail y xs x (k, l, e) = (suc k, omega arith, e)

head_or_tail : {X : Type 0} (y : X) (xs : List X) (x : X) → Contains (y ∷ xs) x → (y ≡ x) ⊎ Contains xs x
head_or_tail y xs x (zero, l, e) = inl e
head_or_tail y xs x (suc k, l, e) = inr (k, omega arith, e)

-- the list has a reference with this token number
record HasNumber (rs : List Reference) (k : ℕ) : Type 0 where
  row : Reference
  among : Contains rs row
  is : row.number ≡ k

-- the list has a reference with this token number that denotes nothing
record HasNothing (rs : List Reference) (k : ℕ) : Type 0 where
  row : Reference
  among : Contains rs row
  is : row.number ≡ k
  nothing : row.target ≡ targets.Unresolved

numbered : (rs : List Reference) (k : ℕ) → Contains (map (λ (r : Reference). r.number) rs) k → HasNumber rs k
numbered [] k (i, l, e) = absurd (omega arith)
numbered (r ∷ rs) k c = elim (head_or_tail r.number (map (λ (x : Reference). x.number) rs) k c) [
  | inl e ↦ record { row = r; among = in_head r rs; is = e }
  | inr d ↦ (let h : HasNumber rs k = numbered rs k d in record { row = h.row; among = in_tail r rs h.row h.among; is = h.is })
]

nothing_is : (t : Target) → is_unresolved t ≡ true → t ≡ targets.Unresolved
nothing_is (targets.Declared k) e = absurd (let f : false ≡ true = e in cc)
nothing_is (targets.Imported i d) e = absurd (let f : false ≡ true = e in cc)
nothing_is (targets.External at n) e = absurd (let f : false ≡ true = e in cc)
nothing_is targets.Own e = absurd (let f : false ≡ true = e in cc)
nothing_is (targets.«Module» at) e = absurd (let f : false ≡ true = e in cc)
nothing_is targets.Predeclared e = absurd (let f : false ≡ true = e in cc)
nothing_is targets.Unresolved e = refl

-- the numbers of the references that denote nothing in the list `r ∷ rs`; the flag is whether `r` denotes nothing
abbrev with_first : Bool → Reference → List Reference → List ℕ
with_first b r rs = map (λ (x : Reference). x.number) (cond b (r ∷ filter (λ (x : Reference). is_unresolved x.target) rs) (filter (λ (x : Reference). is_unresolved x.target) rs))

later : (r : Reference) (rs : List Reference) (k : ℕ) → HasNothing rs k → HasNothing (r ∷ rs) k
later r rs k h = record { row = h.row; among = in_tail r rs h.row h.among; is = h.is; nothing = h.nothing }

found_step : (r : Reference) (rs : List Reference) (k : ℕ) (b : Bool) → is_unresolved r.target ≡ b → (Contains (unresolved rs) k → HasNothing rs k) → Contains (with_first b r rs) k → HasNothing (r ∷ rs) k
found_step r rs k false e rest c = later r rs k (rest c)
found_step r rs k true e rest c = elim (head_or_tail r.number (unresolved rs) k c) [
  | inl is ↦ record { row = r; among = in_head r rs; is = is; nothing = nothing_is r.target e }
  | inr d ↦ later r rs k (rest d)
]

found : (rs : List Reference) (k : ℕ) → Contains (unresolved rs) k → HasNothing rs k
found [] k (i, l, e) = absurd (omega arith)
found (r ∷ rs) k c = found_step r rs k (is_unresolved r.target) refl (λ d. found rs k d) c

-- the number of a reference that denotes nothing is among the unresolved numbers
kept_first : (r : Reference) (rs : List Reference) (b : Bool) → true ≡ b → Contains (with_first b r rs) r.number
kept_first r rs true e = in_head r.number (unresolved rs)
kept_first r rs false e = absurd (cc)

kept_later : (r : Reference) (rs : List Reference) (k : ℕ) (b : Bool) → Contains (unresolved rs) k → Contains (with_first b r rs) k
kept_later r rs k true c = in_tail r.number (unresolved rs) k c
kept_later r rs k false c = c

kept : (rs : List Reference) (row : Reference) → Contains rs row → row.target ≡ targets.Unresolved → Contains (unresolved rs) row.number
kept [] row (i, l, e) nothing = absurd (omega arith)
kept (r ∷ rs) row c nothing = elim (head_or_tail r rs row c) [
  | inl is ↦ (
      let same : r.target ≡ targets.Unresolved = ap (λ (x : Reference). x.target) is ∙ nothing in
      subst (λ (x : Reference). Contains (unresolved (r ∷ rs)) x.number) is (kept_first r rs (is_unresolved r.target) (sym (ap is_unresolved same))))
  | inr d ↦ kept_later r rs row.number (is_unresolved r.target) (kept rs row d nothing)
]

module _ (w : World) (rs : List Reference) (k : ℕ) (are : AreReferences w rs) where
  from_row : HasNothing rs k → DenotesNothing w k
  from_row h =
      let numbered_here : Contains (map (λ (r : Reference). r.number) rs) h.row.number = mapped rs h.row h.among in
      let refers : Refers w h.row.number h.row.target h.row.role = All-contains (λ (r : Reference). Refers w r.number r.target r.role) rs h.row are.each h.among in
      record {
        is = subst (λ (n : ℕ). Contains (identifiers w.tokens) n) h.is (subst (λ (ns : List ℕ). Contains ns h.row.number) are.numbers numbered_here);
        role = h.row.role;
        refers = subst (λ (n : ℕ). Refers w n targets.Unresolved h.row.role) h.is (subst (λ (t : Target). Refers w h.row.number t h.row.role) h.nothing refers);
      }
    where
      mapped : (xs : List Reference) (row : Reference) → Contains xs row → Contains (map (λ (r : Reference). r.number) xs) row.number
      mapped [] row (i, l, e) = absurd (omega arith)
      mapped (x ∷ xs) row c = elim (head_or_tail x xs row c) [
        | inl is ↦ subst (λ (y : Reference). Contains (map (λ (r : Reference). r.number) (x ∷ xs)) y.number) is (in_head x.number (map (λ (r : Reference). r.number) xs))
        | inr d ↦ in_tail x.number (map (λ (r : Reference). r.number) xs) row.number (mapped xs row d)
      ]

  -- an identifier denotes what its reference says
  pub refers_here : Contains (identifiers w.tokens) k → (t : Target) × (role : ℕ) × Refers w k t role
  refers_here is =
      let h : HasNumber rs k = numbered rs k (subst (λ (ns : List ℕ). Contains ns k) (sym are.numbers) is) in
      let refers : Refers w h.row.number h.row.target h.row.role = All-contains (λ (r : Reference). Refers w r.number r.target r.role) rs h.row are.each h.among in
      (h.row.target, h.row.role, subst (λ (n : ℕ). Refers w n h.row.target h.row.role) h.is refers)

  to_row : DenotesNothing w k → Contains (unresolved rs) k
  to_row s =
      let h : HasNumber rs k = numbered rs k (subst (λ (ns : List ℕ). Contains ns k) (sym are.numbers) s.is) in
      let refers : Refers w h.row.number h.row.target h.row.role = All-contains (λ (r : Reference). Refers w r.number r.target r.role) rs h.row are.each h.among in
      let here : Refers w k h.row.target h.row.role = subst (λ (n : ℕ). Refers w n h.row.target h.row.role) h.is refers in
      subst (λ (n : ℕ). Contains (unresolved rs) n) h.is (kept rs h.row h.among (target_once w k h.row.target targets.Unresolved h.row.role s.role here s.refers))

  pub exactly : Contains (unresolved rs) k ↔ DenotesNothing w k
  exactly = (λ c. from_row (found rs k c), λ s. to_row s)
