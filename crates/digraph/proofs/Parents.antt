-- Parents of nodes, and the parents that a step of a search sets.
use Rattle.std.proofs.Common.{◌≡◌, ◌≢◌, ℕ, zero, suc, ◌<◌, ◌⊎◌, inl, inr, List, [], ◌∷◌, ◌++◌, length, get_or, set, refl, sym, ◌∙◌, ap, subst, arith, Bool, Option, Some, None, true, false, cond, replicate, take, length-append}
use Rattle.std.specs.Prelude.{AllPairs, Contains, is_some}
use Rattle.std.proofs.lemmas.Bool.{cases_eq, cases_lt}
use Rattle.std.proofs.lemmas.List.{get_or-set_same, get_or-set_other, get_or-take, get_or_default, get_or_past, length-set, length-take}
use Rattle.std.proofs.lemmas.List.Elements.{Contains-append_left, Contains-push, Contains-push_cases, Contains-get_or}
use Rattle.std.proofs.lemmas.List.Quantifiers.{all_pairs_push}
use Rattle.std.proofs.lemmas.List.Sums.{sum_by-set, sum_by-cons}
use Rattle.digraph.specs.Marks.{marked}
use Rattle.digraph.specs.Search.{parent_of, undiscovered, AreDiscovered}
use Rattle.digraph.proofs.Members.{no_member}

-- an optional value is present or absent
pub some_or_none : (o : Option ℕ) → ((j : ℕ) × (o ≡ Some j)) ⊎ (o ≡ None)
some_or_none (Some j) = inl (j, refl)
some_or_none None = inr refl

pub never_both : (o : Option ℕ) (j : ℕ) {P : Type 0} → o ≡ Some j → o ≡ None → P
never_both o j some none = absurd (let e : Some j ≡ None = sym some ∙ none in cc)

pub same_value : (o : Option ℕ) (i j : ℕ) → o ≡ Some i → o ≡ Some j → i ≡ j
same_value o i j a b = let e : Some i ≡ Some j = sym a ∙ b in cc

-- a node with a parent has an index within the list
pub parent_within : (parents : List (Option ℕ)) (v u : ℕ) → parent_of parents v ≡ Some u → v < length parents
parent_within parents v u is = elim (cases_lt v (length parents)) [
  | inl lt ↦ lt
  | inr le ↦ never_both (parent_of parents v) u is (get_or_past parents v None le)
]

pub no_parent : (n v : ℕ) → parent_of (replicate n None) v ≡ None
no_parent zero v = refl
no_parent (suc n) zero = refl
no_parent (suc n) (suc v) = no_parent n v

pub none_discovered : (n : ℕ) → undiscovered (replicate n None) ≡ n
none_discovered zero = refl
none_discovered (suc n) = let rest = none_discovered n in omega (arith, sum_by-cons (λ (o : Option ℕ). cond (is_some o) 0 1) None (replicate n None))

-- whether an optional value is present, by the test
pub none_if : (o : Option ℕ) → is_some o ≡ false → o ≡ None
none_if (Some j) e = absurd cc
none_if None e = refl

pub some_if : (o : Option ℕ) → is_some o ≡ true → (j : ℕ) × (o ≡ Some j)
some_if (Some j) e = (j, refl)
some_if None e = absurd cc

-- in a strictly sorted list each earlier node is below the next
pub above_before : (nodes : List ℕ) (i v : ℕ) → AllPairs (λ x y. x < y) nodes → i < length nodes → Contains (take i nodes) v → v < get_or nodes i 0
above_before nodes i v ascending within (k, lt, is) =
    let size = length-take i nodes in
    let low : k < i = omega arith in
    let e : get_or nodes k 0 ≡ v = get_or_default nodes k 0 v (omega arith) ∙ sym (get_or-take i nodes k v low) ∙ is in
    subst (λ (n : ℕ). n < get_or nodes i 0) e (ascending k i 0 low within)

-- ---- one more node

pub discovered_none : (barrier : List Bool) (given : ℕ → ℕ) (old : List (Option ℕ)) → AreDiscovered [] barrier given old old []
discovered_none barrier given old = record {
  size = refl;
  unchanged = λ v u is. is;
  only = λ v u is. inl is;
  found_are = λ v has. no_member v has;
  are_found = λ v has _ _. no_member v has;
  ascending = λ i j d lt l. absurd (omega arith);
  count = omega arith;
}

module _ (nodes : List ℕ) (barrier : List Bool) (given : ℕ → ℕ) (old now : List (Option ℕ)) (found : List ℕ) (are : AreDiscovered nodes barrier given old now found) (n : ℕ) where
  -- a flagged node, or a node with a parent, is unchanged
  pub discovered_same : (marked barrier n ≡ true) ⊎ ((u : ℕ) × (parent_of now n ≡ Some u)) → AreDiscovered (nodes ++ n ∷ []) barrier given old now found
  discovered_same reason = record {
    size = are.size;
    unchanged = are.unchanged;
    only = are.only;
    found_are = λ v has. let own = are.found_are v has in (own.0, Contains-append_left nodes (n ∷ []) v own.1, own.2, own.3);
    are_found = λ v has unmarked free. elim (Contains-push_cases nodes n v has) [
      | inl before ↦ are.are_found v before unmarked free
      | inr e ↦ elim reason [
        | inl mark ↦ absurd (let bad : true ≡ false = sym mark ∙ ap (marked barrier) e ∙ unmarked in cc)
        | inr (u, is) ↦ elim (are.only n u is) [
          | inl was ↦ never_both (parent_of old n) u was (ap (parent_of old) e ∙ free)
          | inr own ↦ subst (Contains found) e own
        ]
      ]
    ];
    ascending = are.ascending;
    count = are.count;
  }

  -- an unflagged node without a parent is discovered
  pub discovered_more : parent_of now n ≡ None → marked barrier n ≡ false → n < length now → ((v : ℕ) → Contains nodes v → v < n) →
      AreDiscovered (nodes ++ n ∷ []) barrier given old (set now n (Some (given n))) (found ++ n ∷ [])
  discovered_more none unmarked within above =
      let was : parent_of old n ≡ None = elim (some_or_none (parent_of old n)) [
        | inl (u, is) ↦ never_both (parent_of now n) u (are.unchanged n u is) none
        | inr is ↦ is
      ] in
      let new = set now n (Some (given n)) in
      let own : parent_of new n ≡ Some (given n) = get_or-set_same now n (Some (given n)) None within in
      let other : (v : ℕ) → v ≢ n → parent_of new v ≡ parent_of now v = λ v ne. get_or-set_other now n v (Some (given n)) None ne in
      record {
        size = length-set now n (Some (given n)) ∙ are.size;
        unchanged = λ v u is. elim (cases_eq v n) [
          | inl e ↦ never_both (parent_of old v) u is (ap (parent_of old) e ∙ was)
          | inr ne ↦ other v ne ∙ are.unchanged v u is
        ];
        only = λ v u is. elim (cases_eq v n) [
          | inl e ↦ inr (subst (Contains (found ++ n ∷ [])) (sym e) (Contains-push found n))
          | inr ne ↦ elim (are.only v u (sym (other v ne) ∙ is)) [
            | inl old_is ↦ inl old_is
            | inr has ↦ inr (Contains-append_left found (n ∷ []) v has)
          ]
        ];
        found_are = λ v has. elim (Contains-push_cases found n v has) [
          | inl before ↦ (let it = are.found_are v before in
              let apart : v ≢ n = λ e. never_both (parent_of now n) (given v) (ap (parent_of now) (sym e) ∙ it.3) none in
              (it.0, Contains-append_left nodes (n ∷ []) v it.1, it.2, other v apart ∙ it.3))
          | inr e ↦ (
            ap (parent_of old) (sym e) ∙ was,
            subst (Contains (nodes ++ n ∷ [])) e (Contains-push nodes n),
            ap (marked barrier) (sym e) ∙ unmarked,
            ap (parent_of new) (sym e) ∙ own ∙ ap (λ (m : ℕ). Some (given m)) e,
          )
        ];
        are_found = λ v has free_of_mark free. elim (Contains-push_cases nodes n v has) [
          | inl before ↦ Contains-append_left found (n ∷ []) v (are.are_found v before free_of_mark free)
          | inr e ↦ subst (Contains (found ++ n ∷ [])) e (Contains-push found n)
        ];
        ascending = all_pairs_push (λ (x y : ℕ). x < y) found n are.ascending (λ k d lt.
            let it = are.found_are (get_or found k d) (Contains-get_or found k d lt) in above (get_or found k d) it.1);
        count =
            let counted = sum_by-set (λ (o : Option ℕ). cond (is_some o) 0 1) now n (Some (given n)) None within in
            let here : cond {A = ℕ} (is_some (get_or now n None)) 0 1 ≡ 1 = ap (λ (o : Option ℕ). cond {A = ℕ} (is_some o) 0 1) none in
            let long = length-append found (n ∷ []) in
            let all = are.count in
            omega arith;
      }
