-- Linked lists of numbered items, empty and with one more item.
use Rattle.std.proofs.Common.{◌≡◌, ℕ, ◌+◌, ◌<◌, List, [], ◌∷◌, ◌++◌, length, replicate, set, get_or, refl, sym, ◌∙◌, subst, arith, inl, inr, length-set, get_or-set_same, get_or-set_other}
use Rattle.std.proofs.lemmas.Bool.{cases_eq}
use Rattle.std.proofs.lemmas.List.{get_or-replicate, get_or_push, get_or_append_left, length-replicate, length_push}
use Rattle.digraph.specs.LinkedLists.{AreLinkedLists}

pub no_trails : (on : ℕ → ℕ → Type 0) (list_count : ℕ) (last before : List ℕ) → last ≡ replicate list_count 0 → before ≡ [] → AreLinkedLists on list_count last before 0
no_trails on list_count last before none empty = rw (none, empty) record {
  size = length-replicate list_count 0;
  each = refl;
  lasts = λ v l. rw (get_or-replicate {A = ℕ} list_count v 0 0 l) record {
    within = omega arith;
    own = λ k e. absurd (omega arith);
    none_after = λ k le lt. absurd (omega arith);
  };
  befores = λ k v l. absurd (omega arith);
}

module _ (on : ℕ → ℕ → Type 0) (list_count count : ℕ) (last before : List ℕ) (t : AreLinkedLists on list_count last before count) where
  -- the next item is in no list yet
  pub trails_over : ((list : ℕ) → on list count → ⊥) → (x : ℕ) → AreLinkedLists on list_count last (before ++ x ∷ []) (count + 1)
  trails_over none x =
      let each = t.each in
      record {
        size = t.size;
        each = (let longer = length_push before x in omega arith);
        lasts = λ v l.
            let was = t.lasts v l in
            record {
              within = (let w = was.within in omega arith);
              own = was.own;
              none_after = λ k le lt is. elim (cases_eq k count) [
                | inl e ↦ none v (subst (on v) e is)
                | inr ne ↦ was.none_after k le (omega arith) is
              ];
            };
        befores = λ k v l is. elim (cases_eq k count) [
          | inl e ↦ absurd (none v (subst (on v) e is))
          | inr ne ↦
              let in_before : k < length before = omega arith in
              rw (get_or_append_left before (x ∷ []) 0 k in_before) (t.befores k v (omega arith) is)
        ];
      }

  -- the next item is in this list
  pub trails_more : (list : ℕ) → list < list_count → on list count → ((other : ℕ) → on other count → other ≡ list) →
      AreLinkedLists on list_count (set last list (count + 1)) (before ++ get_or last list 0 ∷ []) (count + 1)
  trails_more list low here alone =
      let size = t.size in
      let each = t.each in
      let in_last : list < length last = omega arith in
      record {
        size = length-set last list (count + 1) ∙ size;
        each = (let longer = length_push before (get_or last list 0) in omega arith);
        lasts = λ v l. elim (cases_eq v list) [
          | inl e ↦ rw (e, get_or-set_same last list (count + 1) 0 in_last) record {
            within = omega arith;
            own = λ k is. let same : k ≡ count = omega arith in subst (on list) (sym same) here;
            none_after = λ k le lt. absurd (omega arith);
          }
          | inr ne ↦
              let was = t.lasts v l in
              rw (get_or-set_other last list v (count + 1) 0 ne) record {
                within = (let w = was.within in omega arith);
                own = was.own;
                none_after = λ k le lt is. elim (cases_eq k count) [
                  | inl same ↦ ne (alone v (subst (on v) same is))
                  | inr other ↦ was.none_after k le (omega arith) is
                ];
              }
        ];
        befores = λ k v l is. elim (cases_eq k count) [
          | inl e ↦
              let same : v ≡ list = alone v (subst (on v) e is) in
              rw (e, same, get_or_push before (get_or last list 0) 0 count each) (t.lasts list low)
          | inr ne ↦
              let in_before : k < length before = omega arith in
              rw (get_or_append_left before (get_or last list 0 ∷ []) 0 k in_before) (t.befores k v (omega arith) is)
        ];
      }
