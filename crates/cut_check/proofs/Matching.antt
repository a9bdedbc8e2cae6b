-- One pass over the imports and the lines together.
use Rattle.std.proofs.Common.{◌≡◌, ℕ, zero, suc, ◌+◌, ◌-◌, ◌≤◌, ◌<◌, Bool, true, false, cond, List, [], ◌∷◌, ◌++◌, length, get_or, take, refl, sym, ap, ◌∙◌, subst, arith, inl, inr, Option, Some, None, add-zero}
use Rattle.std.specs.Prelude.{is_some, find, option_map}
use Rattle.std.proofs.lemmas.Bool.{cases_eq, both_ways, false_from_ne_true}
use Rattle.std.proofs.lemmas.List.Folds.{find-append}
use Rattle.std.proofs.lemmas.List.{get_or_default, take_more, get_or_push, get_or_append_left, get_or-take, length-take-le}
use Rattle.std.specs.Option.{option_or}
use Rattle.std.proofs.lemmas.Grind.{common_steps}
use Rattle.cut_net.specs.declared.priced.Priced.{Priced}
use Rattle.cut_net.specs.Cuts.{have_equal_ends}
use Rattle.cut_net.specs.Network.{Network}
use Rattle.cut_net.specs.Lines.{comes_before, IsAscending}
use Rattle.cut_net.proofs.Ends.{Same, same_from, same_true, same_sym, same_trans, Before, before_from, before_true, apart, one_way, before_same}
use Rattle.cut_check.specs.Reaching.{any}
use Rattle.cut_check.specs.MatchedLines.{AreMatched, IsLineAt}

-- the line of an import among the first lines
abbrev pub line_among : Priced → List Priced → ℕ → Option ℕ
line_among i lines n = option_map (λ (l : Priced). l.amount) (find (have_equal_ends i) (take n lines))

-- the first imports and the first lines have gone by: each line that has gone by has its import, and the next line has none yet
pub record Matching (imports lines : List Priced) (k next : ℕ) (found : List (Option ℕ)) : Type 0 where
  pub short : next ≤ length lines
  pub size : length found ≡ k
  pub placed : (p : ℕ) (d : Priced) → p < next → (j : ℕ) × (j < k) × Same (get_or imports j d) (get_or lines p d)
  pub ordered : (p q : ℕ) (d : Priced) → p < q → q < next → comes_before (get_or lines p d) (get_or lines q d) ≡ true
  pub values : (j : ℕ) (d : Priced) (e : Option ℕ) → j < k → get_or found j e ≡ line_among (get_or imports j d) lines next
  pub least : (j : ℕ) (d : Priced) → j < k → next < length lines → Same (get_or imports j d) (get_or lines next d) →
      (0 < next) × (comes_before (get_or lines (next - 1) d) (get_or lines next d) ≡ true → ⊥)

option_or_none : (o : Option Priced) → option_or o None ≡ o
option_or_none None = refl
option_or_none (Some x) = refl

find_none : (p : Priced → Bool) (lines : List Priced) (n : ℕ) → ((q : ℕ) (d : Priced) → q < n → q < length lines → p (get_or lines q d) ≡ false) → find p (take n lines) ≡ None
find_none p [] zero none = refl
find_none p [] (suc n) none = refl
find_none p (l ∷ more) zero none = refl
find_none p (l ∷ more) (suc n) none = rw (none 0 l (omega arith) (omega arith)) (find_none p more n (λ q d h in'. none (suc q) d (omega arith) (omega arith)))

find_last : (p : Priced → Bool) (lines : List Priced) (n : ℕ) (d : Priced) → n < length lines → p (get_or lines n d) ≡ false → find p (take (n + 1) lines) ≡ find p (take n lines)
find_last p lines n d h no_match =
    ap (find p) (take_more lines n d h) ∙ find-append p (take n lines) (get_or lines n d ∷ []) ∙ rw no_match (option_or_none (find p (take n lines)))

find_at_last : (p : Priced → Bool) (lines : List Priced) (n : ℕ) (d : Priced) → n < length lines → p (get_or lines n d) ≡ true →
    find p (take n lines) ≡ None → find p (take (n + 1) lines) ≡ Some (get_or lines n d)
find_at_last p lines n d h match none =
    ap (find p) (take_more lines n d h) ∙ find-append p (take n lines) (get_or lines n d ∷ []) ∙ rw (match, none) refl

pub matching_start : (imports lines : List Priced) → Matching imports lines 0 0 []
matching_start imports lines = record {
  short = omega arith;
  size = refl;
  placed = λ p d h. absurd (omega arith);
  ordered = λ p q d h i. absurd (omega arith);
  values = λ j d e h. absurd (omega arith);
  least = λ j d h. absurd (omega arith);
}

module _ (imports lines : List Priced) (k next : ℕ) (found : List (Option ℕ)) (ascending : IsAscending imports) (m : Matching imports lines k next found) (in_k : k < length imports) where
  earlier : (j : ℕ) (d : Priced) → j < k → Before (get_or imports j d) (get_or imports k d)
  earlier j d h = before_from (get_or imports j d) (get_or imports k d) (ascending j k d h in_k)

  -- no line that has gone by is of this import
  none_yet : (d : Priced) → find (have_equal_ends (get_or imports k d)) (take next lines) ≡ None
  none_yet d = find_none (have_equal_ends (get_or imports k d)) lines next (λ q e h in_q.
      false_from_ne_true _ (λ t.
      let at_j = m.placed q d h in
      let first = earlier at_j.0 d at_j.1 in
      let same = same_from (get_or imports k d) (get_or lines q e) t in
      let line_is : get_or lines q e ≡ get_or lines q d = get_or_default lines q e d in_q in
      apart first (same_trans at_j.2 (subst (λ l. Same (get_or imports k d) l) line_is same))))

  pub matching_no : ((d : Priced) → next < length lines → Same (get_or imports k d) (get_or lines next d) → ⊥) → Matching imports lines (k + 1) next (found ++ None ∷ [])
  matching_no differs = record {
    short = m.short;
    size = let e = m.size in grind (arith, common_steps);
    placed = λ p d h. let at_j = m.placed p d h in (at_j.0, omega arith, at_j.2);
    ordered = m.ordered;
    values = λ j d e h. elim (cases_eq j k) [
      | inl eq ↦ rw eq (get_or_push found None e k m.size ∙ sym (ap (option_map (λ (l : Priced). l.amount)) (none_yet d)))
      | inr ne ↦ let size = m.size in get_or_append_left found (None ∷ []) e j (omega arith) ∙ m.values j d e (omega arith)
    ];
    least = λ j d h in_next same. elim (cases_eq j k) [
      | inl eq ↦ absurd (differs d in_next (subst (λ v. Same (get_or imports v d) (get_or lines next d)) eq same))
      | inr ne ↦ m.least j d (omega arith) in_next same
    ];
  }

  pub matching_yes : (in_next : next < length lines) → ((d : Priced) → Same (get_or imports k d) (get_or lines next d)) → (x : ℕ) → ((d : Priced) → x ≡ (get_or lines next d).amount) →
      Matching imports lines (k + 1) (next + 1) (found ++ Some x ∷ [])
  matching_yes in_next same x x_is = record {
    short = omega arith;
    size = let e = m.size in grind (arith, common_steps);
    placed = λ p d h. elim (cases_eq p next) [
      | inl e ↦ (k, omega arith, rw e (same d))
      | inr ne ↦ let at_j = m.placed p d (omega arith) in (at_j.0, omega arith, at_j.2)
    ];
    ordered = λ p q d h i. elim (cases_eq q next) [
      | inl e ↦
          let at_j = m.placed p d (omega arith) in
          rw e (before_true _ _ (before_same (earlier at_j.0 d at_j.1) at_j.2 (same d)))
      | inr ne ↦ m.ordered p q d h (omega arith)
    ];
    values = λ j d e h. elim (cases_eq j k) [
      | inl eq ↦ rw eq (get_or_push found (Some x) e k m.size ∙ ap Some (x_is d) ∙
          sym (ap (option_map (λ (l : Priced). l.amount)) (find_at_last (have_equal_ends (get_or imports k d)) lines next d in_next (same_true _ _ (same d)) (none_yet d))))
      | inr ne ↦
          let size = m.size in
          let other : have_equal_ends (get_or imports j d) (get_or lines next d) ≡ false = false_from_ne_true _ (λ t.
          apart (earlier j d (omega arith)) (same_trans (same_from (get_or imports j d) (get_or lines next d) t) (same d))) in
          get_or_append_left found (Some x ∷ []) e j (omega arith) ∙ m.values j d e (omega arith) ∙
          sym (ap (option_map (λ (l : Priced). l.amount)) (find_last (have_equal_ends (get_or imports j d)) lines next d in_next other))
    ];
    least = λ j d h in_after same_j. (
      omega arith,
      λ order.
          let back : next + 1 - 1 ≡ next = omega arith in
          let order_is : comes_before (get_or lines next d) (get_or lines (next + 1) d) ≡ true = subst (λ v. comes_before (get_or lines v d) (get_or lines (next + 1) d) ≡ true) back order in
          let later = before_same (before_from (get_or lines next d) (get_or lines (next + 1) d) order_is) (same_sym (same d)) (same_sym same_j) in
          elim (cases_eq j k) [
            | inl e ↦ apart later (subst (λ v. Same (get_or imports k d) (get_or imports v d)) (sym e) (record { from = refl; to = refl }))
            | inr ne ↦ one_way later (earlier j d (omega arith))
          ],
    );
  }

  pub matching_none : (i : Priced) → i ≡ get_or imports k i → IsLineAt i lines next None → Matching imports lines (k + 1) next (found ++ None ∷ [])
  matching_none i i_is line = matching_no (λ d in_next same.
      both_ways (have_equal_ends i (get_or lines next d)) (line d in_next) (same_true i (get_or lines next d) (same_trans (subst (λ j. Same i j) (i_is ∙ get_or_default imports k i d in_k) (record { from = refl; to = refl })) (same_sym same))))

  pub matching_some : (i : Priced) → i ≡ get_or imports k i → (x : ℕ) → IsLineAt i lines next (Some x) → Matching imports lines (k + 1) (next + 1) (found ++ Some x ∷ [])
  matching_some i i_is x line =
      matching_yes line.0 (λ d. subst (λ j. Same j (get_or lines next d)) (i_is ∙ get_or_default imports k i d in_k) (same_from i (get_or lines next d) (line.1 d).0)) x (λ d. (line.1 d).1)

  pub matching_more : (d : Priced) (o : Option ℕ) → IsLineAt (get_or imports k d) lines next o → (after : ℕ) → after ≡ next + cond (is_some o) 1 0 →
      (now : List (Option ℕ)) → now ≡ found ++ o ∷ [] → Matching imports lines (k + 1) after now
  matching_more d None line after e now f = rw (f, e, add-zero) (matching_none (get_or imports k d) (get_or_default imports k d (get_or imports k d) in_k) line)
  matching_more d (Some x) line after e now f = rw (f, e) (matching_some (get_or imports k d) (get_or_default imports k d (get_or imports k d) in_k) x line)

pub matching_end : (net : Network) (lines : List Priced) (next : ℕ) (found : List (Option ℕ)) → Matching net.imports lines (length net.imports) next found → AreMatched net lines next found
matching_end net lines next found m =
    let len : length (take next lines) ≡ next = length-take-le next lines m.short in
    record {
      within = m.short;
      in_order = record {
        known = λ p d h.
            let in_next : p < next = omega arith in
            let at_j = m.placed p d in_next in
            let line_is = get_or-take next lines p d in_next in (
              get_or net.imports at_j.0 d,
              (at_j.0, at_j.1, get_or_default net.imports at_j.0 (get_or net.imports at_j.0 d) d at_j.1),
              at_j.2.from ∙ ap (λ (l : Priced). l.from) (sym line_is),
              at_j.2.to ∙ ap (λ (l : Priced). l.to) (sym line_is),
              tt,
            );
        ascending = λ p q d h i.
            let in_p : p < next = omega arith in
            let in_q : q < next = omega arith in
            rw (get_or-take next lines p d in_p, get_or-take next lines q d in_q) (m.ordered p q d h in_q);
      };
      no_more = λ h order.
          let len_more : length (take (next + 1) lines) ≡ next + 1 = length-take-le (next + 1) lines (omega arith) in
          let line_is = get_or-take (next + 1) lines next any (omega arith) in
          let (i, at, ef, et, _) = order.known next any (omega arith) in
          let i_is : get_or net.imports at.0 any ≡ i = get_or_default net.imports at.0 any i at.1 ∙ at.2 in
          let same : Same (get_or net.imports at.0 any) (get_or lines next any) = record {
            from = ap (λ (l : Priced). l.from) i_is ∙ ef ∙ ap (λ (l : Priced). l.from) line_is;
            to = ap (λ (l : Priced). l.to) i_is ∙ et ∙ ap (λ (l : Priced). l.to) line_is;
          } in
          let l = m.least at.0 any at.1 h same in
          l.1 (subst (λ v. comes_before v (get_or lines next any) ≡ true) (get_or-take (next + 1) lines (next - 1) any (omega arith))
          (subst (λ v. comes_before (get_or (take (next + 1) lines) (next - 1) any) v ≡ true) line_is (order.ascending (next - 1) next any (omega arith) (omega arith))));
      size = m.size;
      each = λ k d e h. m.values k d e h;
    }
