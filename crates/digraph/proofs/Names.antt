-- Sorted names, and the index of a name in a list.
use Rattle.std.proofs.Common.{◌≡◌, ℕ, ◌+◌, Bool, true, false, cond, not, ◌||◌, List, [], ◌∷◌, get_or, map, refl, sym, ap, ◌∙◌, arith, Ordering}
use Rattle.std.specs.Prelude.{String}
use Rattle.std.specs.List.{IsDistinct, list_any, position, prefix_len}
use Rattle.std.specs.List.Sorted.{IsSorted, IsStrictlySortedBy}
use Rattle.std.specs.Ordering.{is_eq, is_lt, nat_cmp, ordering_reverse}
use Rattle.std.specs.Cmp.Lexicographic.{slice_cmp, nat_list_cmp_total}
use Rattle.std.specs.Str.{bytes_eq}
use Rattle.std.specs.String.{string_bytes}
use Rattle.std.specs.declared.cmp.Ordering.TheVariants.{Less, Equal, Greater}
use Rattle.std.proofs.lemmas.Bool.{false≢true}
use Rattle.std.proofs.lemmas.List.{length-map}
use Rattle.std.proofs.lemmas.Map.Keys.{apart_from_distinct, IsDistinct-from_apart, Less-from_sorted, sorted_from_all_adjacent}
use Rattle.std.proofs.lemmas.Map.Text.{is_eq-slice_cmp}
use Rattle.std.proofs.lemmas.Slice.Eq.{bytes_eq-Decides}

pub same_is : (a b : List ℕ) → a ≡ b → bytes_eq a b ≡ true
same_is a b e = (bytes_eq-Decides a b).1 e

-- two different texts of which the second isn't smaller are sorted
pub below : (a b : List ℕ) → is_lt (slice_cmp nat_cmp b a) ≡ false → (a ≡ b → ⊥) → slice_cmp nat_cmp a b ≡ Less
below a b not_less apart = by (slice_cmp nat_cmp a b) refl
  where
    by : (o : Ordering) → slice_cmp nat_cmp a b ≡ o → o ≡ Less
    by Less e = refl
    by Equal e = absurd (apart ((bytes_eq-Decides a b).0 (sym (is_eq-slice_cmp a b) ∙ ap is_eq e)))
    by Greater e = absurd (false≢true (sym not_less ∙ ap is_lt (nat_list_cmp_total.antisymm b a ∙ ap ordering_reverse e)))

-- sorted names that differ are strictly sorted
pub apart_ascend : (names : List (List ℕ)) → IsSorted (slice_cmp nat_cmp) names → IsDistinct bytes_eq names → IsStrictlySortedBy (slice_cmp nat_cmp) names
apart_ascend names sorted once = sorted_from_all_adjacent nat_list_cmp_total names [] (λ k within.
    below (get_or names k []) (get_or names (k + 1) []) (sorted k [] (omega arith) within) (λ alike.
    false≢true (sym (apart_from_distinct bytes_eq names k (k + 1) [] once (omega arith) within) ∙ same_is (get_or names k []) (get_or names (k + 1) []) alike)))

-- strictly sorted names differ
pub ascending_apart : (ns : List (List ℕ)) → IsStrictlySortedBy (slice_cmp nat_cmp) ns → IsDistinct bytes_eq ns
ascending_apart ns up = IsDistinct-from_apart bytes_eq ns (λ i j d lt l. sym (is_eq-slice_cmp (get_or ns i d) (get_or ns j d)) ∙ ap is_eq (Less-from_sorted (slice_cmp nat_cmp) ns i j d up lt l))

prefix_len-map : {A B : Type 0} (p : B → Bool) (f : A → B) (xs : List A) → prefix_len p (map f xs) ≡ prefix_len (λ x. p (f x)) xs
prefix_len-map p f [] = refl
prefix_len-map p f (x ∷ xs) = ap (λ n. cond (p (f x)) (1 + n) 0) (prefix_len-map p f xs)

pub position-map : {A B : Type 0} (p : B → Bool) (f : A → B) (xs : List A) → position p (map f xs) ≡ position (λ x. p (f x)) xs
position-map p f xs = rw (prefix_len-map (λ y. not (p y)) f xs, length-map) refl

pub any_text : {Z : Type 0} (name : List ℕ) (names : List (String Z)) → list_any (λ x. bytes_eq name (string_bytes x)) names ≡ list_any (bytes_eq name) (map string_bytes names)
any_text name [] = refl
any_text name (x ∷ names) = ap (λ (b : Bool). bytes_eq name (string_bytes x) || b) (any_text name names)
