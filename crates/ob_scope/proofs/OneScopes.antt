-- A module has one value of scopes.
use Rattle.std.proofs.Common.{◌≡◌, ℕ, zero, suc, ◌<◌, ◌⊎◌, inl, inr, List, [], ◌∷◌, length, slice_get, Some, Contains, refl, sym, ap, ap₂, ◌∙◌, arith}
use Rattle.std.proofs.lemmas.Option.{slice_get_within}
use Rattle.ob_scan.specs.declared.token.Token.{Token}
use Rattle.ob_scan.specs.Texts.{text_at}
use Rattle.module_table.specs.Order.{IsIncreasingBy}
use Rattle.module_table.specs.Parts.{Rows}
use Rattle.scopes.specs.QualifiedUses.{IsQualifiedBy}
use Rattle.scopes.specs.Members.{members_of}
use Rattle.scopes.specs.Scoped.{AliasUses, AreScopes, Meaning, ModuleScopes}
use Rattle.scopes.proofs.Counting.{counts-once}
use Rattle.module_table.proofs.Elements.{contains_slice, slice_contains, slice_there}

-- ---- two lists with equal elements at equal indexes are equal

pub each_same : {X : Type 0} (xs ys : List X) → length xs ≡ length ys → ((k : ℕ) (x y : X) → slice_get xs k ≡ Some x → slice_get ys k ≡ Some y → x ≡ y) → xs ≡ ys
each_same [] [] long same = refl
each_same [] (y ∷ ys) long same = absurd (omega arith)
each_same (x ∷ xs) [] long same = absurd (omega arith)
each_same {X} (x ∷ xs) (y ∷ ys) long same =
    ap₂ (λ (z : X) (zs : List X). z ∷ zs) (same zero x y refl refl) (each_same xs ys (omega arith) (λ k a b p q. same (suc k) a b p q))

-- ---- two strictly increasing lists with equal elements are equal

module _ {X : Type 0} (n : X → ℕ) where
  ascend_rest : (x : X) (xs : List X) → IsIncreasingBy n (x ∷ xs) → IsIncreasingBy n xs
  ascend_rest x xs a i j y z l p q = a (suc i) (suc j) y z (omega arith) p q

  -- an element is the first one, or a later one with a greater number
  first_or_later : (x z : X) (xs : List X) → IsIncreasingBy n (x ∷ xs) → Contains (x ∷ xs) z → (x ≡ z) ⊎ ((n x < n z) × Contains xs z)
  first_or_later x z xs a has = at (slice_contains (x ∷ xs) z has)
    where
      at : (k : ℕ) × (slice_get (x ∷ xs) k ≡ Some z) → (x ≡ z) ⊎ ((n x < n z) × Contains xs z)
      at (zero, e) = inl cc
      at (suc k, e) = inr (a zero (suc k) x z (omega arith) refl e, contains_slice xs k z e)

  first_is : (x : X) (xs : List X) → Contains (x ∷ xs) x
  first_is x xs = contains_slice (x ∷ xs) zero x refl

  later_is : (x z : X) (xs : List X) → Contains xs z → Contains (x ∷ xs) z
  later_is x z xs has = let at = slice_contains xs z has in contains_slice (x ∷ xs) (suc at.0) z at.1

  no_member : (x : X) → Contains [] x → ⊥
  no_member x has = let at = slice_contains [] x has in let e = at.1 in cc

  -- the elements after the first one are equal in both lists
  behind : (x y z : X) (xs ys : List X) → IsIncreasingBy n (x ∷ xs) → IsIncreasingBy n (y ∷ ys) → x ≡ y → Contains xs z → Contains (y ∷ ys) z → Contains ys z
  behind x y z xs ys a b same here there = elim (first_or_later y z ys b there) [
    | inl e ↦ (let at = slice_contains xs z here in
        let above : n x < n z = a zero (suc at.0) x z (omega arith) refl at.1 in
        let level : n x ≡ n z = ap n (same ∙ e) in
        absurd (omega arith))
    | inr h ↦ h.1
  ]

  same_first : (x y : X) (xs ys : List X) → IsIncreasingBy n (x ∷ xs) → IsIncreasingBy n (y ∷ ys) → Contains (y ∷ ys) x → Contains (x ∷ xs) y → x ≡ y
  same_first x y xs ys a b p q = go (first_or_later y x ys b p) (first_or_later x y xs a q)
    where
      go : (y ≡ x) ⊎ ((n y < n x) × Contains ys x) → (x ≡ y) ⊎ ((n x < n y) × Contains xs y) → x ≡ y
      go (inl e) h = sym e
      go (inr g) (inl e) = e
      go (inr g) (inr h) = let above = g.0 in let below = h.0 in absurd (omega arith)

  pub same_members : (xs ys : List X) → IsIncreasingBy n xs → IsIncreasingBy n ys → ((z : X) → Contains xs z → Contains ys z) → ((z : X) → Contains ys z → Contains xs z) → xs ≡ ys
  same_members [] [] a b to from = refl
  same_members [] (y ∷ ys) a b to from = absurd (no_member y (from y (first_is y ys)))
  same_members (x ∷ xs) [] a b to from = absurd (no_member x (to x (first_is x xs)))
  same_members (x ∷ xs) (y ∷ ys) a b to from =
      let first : x ≡ y = same_first x y xs ys a b (to x (first_is x xs)) (from y (first_is y ys)) in
      let rest : xs ≡ ys = same_members xs ys (ascend_rest x xs a) (ascend_rest y ys b)
      (λ z has. behind x y z xs ys a b first has (to z (later_is x z xs has)))
      (λ z has. behind y x z ys xs b a (sym first) has (from z (later_is y z ys has))) in
      ap₂ (λ (z : X) (zs : List X). z ∷ zs) first rest

-- ---- scopes

module _ (bytes : List ℕ) (ts : List Token) (rows : Rows) (s t : ModuleScopes) (a : AreScopes bytes ts rows s) (b : AreScopes bytes ts rows t) where
  same_alias : (k : ℕ) (x y : AliasUses) → slice_get s.aliases k ≡ Some x → slice_get t.aliases k ≡ Some y → x ≡ y
  same_alias k x y at_x at_y =
      let within = slice_get_within s.aliases k x at_x in
      let many = a.aliased.as_many in
      let (item, at) = slice_there rows.imports k (omega arith) in
      let p = a.aliased.each k item x at at_x in
      let q = b.aliased.each k item y at at_y in
      let uses : x.uses ≡ y.uses = counts-once (IsQualifiedBy (text_at bytes ts) rows.blocks (members_of rows) item.alias) rows.uses x.uses y.uses p.uses q.uses in
      λ i. record { alias = (p.alias ∙ sym q.alias) i; imported = (p.imported ∙ sym q.imported) i; uses = uses i }

  pub scopes_are_unique : s ≡ t
  scopes_are_unique =
      let meanings : s.meanings ≡ t.meanings = same_members (λ (m : Meaning). m.used) s.meanings t.meanings a.ordered b.ordered
      (λ m has. (b.meanings m.used m.declared).1 ((a.meanings m.used m.declared).0 has))
      (λ m has. (a.meanings m.used m.declared).1 ((b.meanings m.used m.declared).0 has)) in
      let aliases : s.aliases ≡ t.aliases = each_same s.aliases t.aliases (a.aliased.as_many ∙ sym b.aliased.as_many) same_alias in
      λ i. record { name = (a.name ∙ sym b.name) i; meanings = meanings i; aliases = aliases i }
