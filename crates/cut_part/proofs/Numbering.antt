-- Numbering the flagged modules, one after the other.
use Rattle.std.proofs.Common.{◌≡◌, ℕ, ◌+◌, ◌<◌, Bool, true, false, List, [], ◌∷◌, ◌++◌, length, get_or, refl, ap, ◌∙◌, arith, inl, inr}
use Rattle.std.proofs.lemmas.Bool.{cases_lt, both_ways}
use Rattle.std.proofs.lemmas.List.{get_or_push, get_or_append_left, length_push}
use Rattle.residual_graph.specs.Graphs.{is_flagged}
use Rattle.cut_part.specs.Marks.{IsNumberingTo}

module _ (marks : List Bool) (numbers new_numbers : List ℕ) (count : ℕ) (is : IsNumberingTo marks numbers new_numbers count) where
  old_place : (m p : ℕ) → m < count → get_or (new_numbers ++ p ∷ []) m 0 ≡ get_or new_numbers m 0
  old_place m p h = get_or_append_left new_numbers (p ∷ []) 0 m (let size = is.size in omega arith)

  pub numbering_over : (p : ℕ) → is_flagged marks count ≡ false → IsNumberingTo marks numbers (new_numbers ++ p ∷ []) (count + 1)
  numbering_over p f =
      let size = is.size in
      let few = is.few in
      record {
        size = let long = length_push new_numbers p in omega arith;
        few = omega arith;
        ascend = is.ascend;
        low = λ x h. let low = is.low x h in omega arith;
        marked = is.marked;
        place_is = λ x h. old_place (get_or numbers x 0) p (is.low x h) ∙ is.place_is x h;
        place_low = λ m h t. elim (cases_lt m count) [
          | inl low ↦ let same = old_place m p low in let old = is.place_low m low t in omega arith
          | inr high ↦ let e : m ≡ count = omega arith in absurd (both_ways (is_flagged marks count) f (rw e at t))
        ];
        number_is = λ m h t. elim (cases_lt m count) [
          | inl low ↦ ap (λ n. get_or numbers n 0) (old_place m p low) ∙ is.number_is m low t
          | inr high ↦ let e : m ≡ count = omega arith in absurd (both_ways (is_flagged marks count) f (rw e at t))
        ];
      }

  pub numbering_with : is_flagged marks count ≡ true → IsNumberingTo marks (numbers ++ count ∷ []) (new_numbers ++ length numbers ∷ []) (count + 1)
  numbering_with t_count =
      let size = is.size in
      let few = is.few in
      let long = length_push numbers count in
      let old = λ (x : ℕ) (h : x < length numbers). get_or_append_left numbers (count ∷ []) 0 x h in
      let last : get_or (numbers ++ count ∷ []) (length numbers) 0 ≡ count = get_or_push numbers count 0 (length numbers) refl in
      let last_place : get_or (new_numbers ++ length numbers ∷ []) count 0 ≡ length numbers = get_or_push new_numbers (length numbers) 0 count size in
      record {
        size = let long = length_push new_numbers (length numbers) in omega arith;
        few = omega arith;
        ascend = λ x y less h. elim (cases_lt y (length numbers)) [
          | inl low ↦ rw (old x (omega arith), old y low) (is.ascend x y less low)
          | inr high ↦ let e : y ≡ length numbers = omega arith in let l = is.low x (omega arith) in rw (e, last, old x (omega arith)) l
        ];
        low = λ x h. elim (cases_lt x (length numbers)) [
          | inl low ↦ let e = old x low in let l = is.low x low in omega arith
          | inr high ↦ let e : x ≡ length numbers = omega arith in rw (e, last) (omega arith)
        ];
        marked = λ x h. elim (cases_lt x (length numbers)) [
          | inl low ↦ rw (old x low) (is.marked x low)
          | inr high ↦ let e : x ≡ length numbers = omega arith in rw (e, last) t_count
        ];
        place_is = λ x h. elim (cases_lt x (length numbers)) [
          | inl low ↦ rw (old x low) (old_place (get_or numbers x 0) (length numbers) (is.low x low) ∙ is.place_is x low)
          | inr high ↦ let e : x ≡ length numbers = omega arith in rw (e, last) last_place
        ];
        place_low = λ m h t. elim (cases_lt m count) [
          | inl low ↦ let same = old_place m (length numbers) low in let l = is.place_low m low t in omega arith
          | inr high ↦ let e : m ≡ count = omega arith in rw (e, last_place) (omega arith)
        ];
        number_is = λ m h t. elim (cases_lt m count) [
          | inl low ↦ rw (old_place m (length numbers) low) (old (get_or new_numbers m 0) (is.place_low m low t) ∙ is.number_is m low t)
          | inr high ↦ let e : m ≡ count = omega arith in rw (e, last_place) last
        ];
      }
