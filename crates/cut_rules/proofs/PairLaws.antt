-- The two names of each `allow` line.
use Rattle.std.proofs.Common.{◌≡◌, ℕ, ◌+◌, ◌||◌, inl, inr, true, Bool, List, [], ◌∷◌, refl, sym, ap, ◌∙◌, subst, Ordering}
use Rattle.std.specs.List.{list_any}
use Rattle.std.specs.BTreeSet.{BTreeSet, insert_key}
use Rattle.std.specs.Cmp.Lexicographic.{slice_cmp}
use Rattle.std.specs.Ordering.{is_eq, nat_cmp, ordering_then}
use Rattle.std.specs.declared.cmp.Ordering.TheVariants.{Less, Equal, Greater}
use Rattle.std.proofs.lemmas.Bool.{cases_Bool, or_cases, or_left, or_right}
use Rattle.std.proofs.lemmas.Cmp.{nat_list_cmp_total, tied_itself}
use Rattle.std.proofs.lemmas.Map.Lookups.{exact_bytes}
use Rattle.cut_rules.specs.RuleLines.{Allow, States}
use Rattle.cut_rules.specs.Builders.{ArePairs}
use Rattle.cut_rules.proofs.LineLaws.{says_one}
use Rattle.cut_rules.proofs.Pieces.{within_next}

module _ {K : Type 0} (first second : K → List ℕ) where
  -- how two names compare with a key
  abbrev against : List ℕ → List ℕ → K → Ordering
  against m n key = ordering_then (slice_cmp nat_cmp m (first key)) (slice_cmp nat_cmp n (second key))

  abbrev key_cmp : K → K → Ordering
  key_cmp k x = against (first k) (second k) x

  tied : (m n k l : List ℕ) → ordering_then (slice_cmp nat_cmp m k) (slice_cmp nat_cmp n l) ≡ Equal → (m ≡ k) × (n ≡ l)
  tied m n k l e = by (slice_cmp nat_cmp m k) refl e
    where
      by : (o : Ordering) → slice_cmp nat_cmp m k ≡ o → ordering_then o (slice_cmp nat_cmp n l) ≡ Equal → (m ≡ k) × (n ≡ l)
      by Less is e = absurd cc
      by Equal is e = (exact_bytes m k is, exact_bytes n l e)
      by Greater is e = absurd cc

  tied_same : (m n : List ℕ) → ordering_then (slice_cmp nat_cmp m m) (slice_cmp nat_cmp n n) ≡ Equal
  tied_same m n = rw (tied_itself nat_list_cmp_total m) (tied_itself nat_list_cmp_total n)

  any_inserted : (test : K → Bool) (k : K) → ((x : K) → key_cmp k x ≡ Equal → test k ≡ test x) → (keys : List K) → list_any test (insert_key key_cmp keys k) ≡ (test k || list_any test keys)
  any_inserted test k alike [] = refl
  any_inserted test k alike (x ∷ xs) = by (key_cmp k x) refl (any_inserted test k alike xs)
    where
      by : (o : Ordering) → key_cmp k x ≡ o → list_any test (insert_key key_cmp xs k) ≡ (test k || list_any test xs) → list_any test (insert_key key_cmp (x ∷ xs) k) ≡ (test k || list_any test (x ∷ xs))
      by Less is rest = rw is refl
      by Equal is rest = rw (is, alike x is) (elim (cases_Bool (test x)) [ inl e ↦ rw e refl | inr e ↦ rw e refl ])
      by Greater is rest = rw (is, rest) (elim (cases_Bool (test x)) [
        | inl e ↦ rw e (elim (cases_Bool (test k)) [ inl f ↦ rw f refl | inr f ↦ rw f refl ])
        | inr e ↦ rw e refl
      ])

  eq_of : (o : Ordering) → is_eq o ≡ true → o ≡ Equal
  eq_of Less e = absurd cc
  eq_of Equal e = refl
  eq_of Greater e = absurd cc

  -- with one more key
  pub pairs_added : (pieces : List (List ℕ)) (count : ℕ) (old new : BTreeSet K) (key : K) → new.keys ≡ insert_key key_cmp old.keys key → States pieces (count + 1) (Allow (first key) (second key)) → ArePairs old first second pieces count
      → ArePairs new first second pieces (count + 1)
  pairs_added pieces count old new key keys says elements m n =
      let test : K → Bool = λ x. is_eq (against m n x) in
      let alike : (x : K) → key_cmp key x ≡ Equal → test key ≡ test x = λ x e.
      let same = tied (first key) (second key) (first x) (second x) e in
      ap (λ (t : List ℕ). is_eq (ordering_then (slice_cmp nat_cmp m t) (slice_cmp nat_cmp n (second key)))) same.0 ∙ ap (λ (t : List ℕ). is_eq (ordering_then (slice_cmp nat_cmp m (first x)) (slice_cmp nat_cmp n t))) same.1 in
      let inserted : list_any test new.keys ≡ (test key || list_any test old.keys) = ap (list_any test) keys ∙ any_inserted test key alike old.keys in
      let both = within_next (λ (l : ℕ). States pieces l (Allow m n)) count in (
        λ e. both.1 (elim (or_cases (test key) (list_any test old.keys) (sym inserted ∙ e)) [
          | inl here ↦
              let same = tied m n (first key) (second key) (eq_of (against m n key) here) in
              inr (subst (λ (t : List ℕ). States pieces (count + 1) (Allow t n)) (sym same.0) (subst (λ (t : List ℕ). States pieces (count + 1) (Allow (first key) t)) (sym same.1) says))
          | inr was ↦ inl ((elements m n).0 was)
        ]),
        λ within. inserted ∙ elim (both.0 within) [
          | inl was ↦ or_right (test key) (list_any test old.keys) ((elements m n).1 was)
          | inr also ↦
              let e = says_one pieces (count + 1) (Allow m n) (Allow (first key) (second key)) also says in
              let importer : m ≡ first key = cc in
              let imported : n ≡ second key = cc in
              let here : test key ≡ true = rw (importer, imported, tied_same (first key) (second key)) refl in
              or_left (test key) (list_any test old.keys) here
        ],
      )
