-- A binary search over ascending lines finds the line of an import.
use Rattle.std.proofs.Common.{◌≡◌, ℕ, suc, ◌+◌, ◌<◌, ◌==◌, false, List, [], ◌∷◌, length, get_or, Some, None, Ok, Err, refl, sym, ap, ap₂, ◌∙◌, arith, inl, inr, Ordering}
use Rattle.std.specs.Prelude.{find, slice_get}
use Rattle.std.specs.Cmp.{IsTotalOrder, both_tied, nat_cmp_is, unsigned_tied}
use Rattle.std.specs.List.{position_or_len}
use Rattle.std.specs.List.Sorted.{IsBinarySearchResult, IsSearchInRange, IsSortedBy}
use Rattle.std.specs.Ordering.{is_eq, is_lt, nat_cmp, ordering_reverse, ordering_then}
use Rattle.std.specs.declared.cmp.Ordering.TheVariants.{Less, Equal, Greater}
use Rattle.std.proofs.lemmas.Bool.{cases_lt}
use Rattle.std.proofs.lemmas.Cmp.{nat_cmp_total, on_total, then_total}
use Rattle.std.proofs.lemmas.List.Folds.{find_at}
use Rattle.std.proofs.lemmas.List.Sorted.{searchable_from_sorted}
use Rattle.std.proofs.lemmas.List.Sums.{position_or_len_is}
use Rattle.std.proofs.lemmas.Option.{slice_get-get_or}
use Rattle.cut_net.specs.declared.priced.Priced.{Priced}
use Rattle.cut_net.specs.Cuts.{have_equal_ends}
use Rattle.cut_net.specs.Lines.{compare_ends, IsAscending}
use Rattle.cut_net.proofs.Ends.{before_from, Before}

pub ends_total : IsTotalOrder compare_ends
ends_total = then_total (on_total (λ (i : Priced). i.from) nat_cmp_total) (on_total (λ (i : Priced). i.to) nat_cmp_total)

less : (i j : Priced) → Before i j → compare_ends i j ≡ Less
less i j b = elim b.by [
  | inl l ↦ ap (λ (o : Ordering). ordering_then o (nat_cmp i.to j.to)) (sym (nat_cmp_is i.from j.from Less l))
  | inr r ↦ ap₂ ordering_then (sym (nat_cmp_is i.from j.from Equal r.0)) (sym (nat_cmp_is i.to j.to Less r.1))
]

ascending : (lines : List Priced) (p q : ℕ) (d : Priced) → IsAscending lines → p < q → q < length lines → compare_ends (get_or lines p d) (get_or lines q d) ≡ Less
ascending lines p q d up below lt = less (get_or lines p d) (get_or lines q d) (before_from (get_or lines p d) (get_or lines q d) (up p q d below lt))

is_sorted : (lines : List Priced) → IsAscending lines → IsSortedBy (λ (i : Priced) (j : Priced). is_lt (compare_ends i j)) lines
is_sorted lines up k d low lt =
    rw (ends_total.antisymm (get_or lines (k + 1) d) (get_or lines k d), ascending lines k (k + 1) d up (omega arith) lt) refl

-- the test of the ends, by the order
same_is : (line i : Priced) (o : Ordering) → compare_ends line i ≡ o → have_equal_ends i line ≡ is_eq o
same_is line i o e =
    let from : (i.from == line.from) ≡ is_eq (nat_cmp i.from line.from) = sym (unsigned_tied i.from line.from) in
    let to : (i.to == line.to) ≡ is_eq (nat_cmp i.to line.to) = sym (unsigned_tied i.to line.to) in
    let here : have_equal_ends i line ≡ is_eq (compare_ends i line) = both_tied (i.from == line.from) (i.to == line.to) (nat_cmp i.from line.from) (nat_cmp i.to line.to) from to in
    here ∙ ap is_eq (ends_total.antisymm i line) ∙ turned (compare_ends line i) ∙ ap is_eq e
  where
    turned : (o : Ordering) → is_eq (ordering_reverse o) ≡ is_eq o
    turned Less = refl
    turned Equal = refl
    turned Greater = refl

-- what is below a line that has the import's ends is below the import
below_equal : (line other i : Priced) → compare_ends other line ≡ Less → compare_ends line i ≡ Equal → compare_ends other i ≡ Less
below_equal line other i less equal =
    ends_total.antisymm other i ∙ ap ordering_reverse (sym (ends_total.congr line i other equal) ∙ ends_total.antisymm line other ∙ ap ordering_reverse less)

found : (lines : List Priced) (i : Priced) (k : ℕ) (d : Priced) → IsAscending lines → k < length lines → compare_ends (get_or lines k d) i ≡ Equal → find (have_equal_ends i) lines ≡ Some (get_or lines k d)
found lines i k d up lt equal =
    let before : (j : ℕ) → j < k → have_equal_ends i (get_or lines j d) ≡ false = λ j below.
    same_is (get_or lines j d) i Less (below_equal (get_or lines k d) (get_or lines j d) i (ascending lines j k d up below lt) equal) in
    let place : position_or_len (have_equal_ends i) lines ≡ k = position_or_len_is (have_equal_ends i) lines k d (omega arith) before (λ _. same_is (get_or lines k d) i Equal equal) in
    find_at (have_equal_ends i) lines ∙ ap (slice_get lines) place ∙ slice_get-get_or lines k d lt

missing : (lines : List Priced) (i d : Priced) → ((k : ℕ) → k < length lines → have_equal_ends i (get_or lines k d) ≡ false) → find (have_equal_ends i) lines ≡ None
missing [] i d none = refl
missing (l ∷ more) i d none = rw (none 0 (omega arith)) (missing more i d (λ k lt. none (suc k) (omega arith)))

-- the result of the search
pub found_at : (lines : List Priced) (i : Priced) (k : ℕ) → IsAscending lines → IsSearchInRange (Ok k) (length lines) → IsBinarySearchResult (λ line. compare_ends line i) lines (Ok k) → (d : Priced) → find (have_equal_ends i) lines ≡ Some (get_or lines k d)
found_at lines i k up range at d = found lines i k d up (omega (arith, range)) (at d)

pub found_nowhere : (lines : List Priced) (i : Priced) (k : ℕ) → IsAscending lines → IsBinarySearchResult (λ line. compare_ends line i) lines (Err k) → find (have_equal_ends i) lines ≡ None
found_nowhere lines i k up at =
    let parts = at (searchable_from_sorted ends_total (λ (line : Priced). line) lines i (is_sorted lines up)) in
    missing lines i i (λ j lt. elim (cases_lt j k) [
      | inl below ↦ same_is (get_or lines j i) i Less (parts.0 j i (omega arith) below)
      | inr above ↦ same_is (get_or lines j i) i Greater (parts.1 j i above lt)
    ])
