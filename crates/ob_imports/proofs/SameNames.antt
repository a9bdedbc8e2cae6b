-- Names that occur twice in a list.
use Rattle.std.proofs.Common.{◌≡◌, ℕ, zero, suc, ◌+◌, ◌<◌, ◌≤◌, false, List, [], ◌∷◌, length, get_or, take, drop, refl, sym, ap, ◌∙◌, arith, inl, inr, subst}
use Rattle.std.specs.Prelude.{IsPermutation, String, sum_by, if◌then◌else◌}
use Rattle.std.specs.Ordering.{is_eq, is_lt, nat_cmp}
use Rattle.std.specs.Cmp.Lexicographic.{slice_cmp, nat_list_cmp_total, nat_list_eq_equiv}
use Rattle.std.specs.Str.{bytes_eq}
use Rattle.std.specs.String.{string_bytes}
use Rattle.std.specs.declared.cmp.Ordering.TheVariants.{Less}
use Rattle.std.proofs.lemmas.Bool.{cases_Bool, cases_lt, false≢true, false_from_ne_true}
use Rattle.std.proofs.lemmas.List.{get_or-map, get_or-take}
use Rattle.std.proofs.lemmas.List.MinMax.{ranks_by}
use Rattle.std.proofs.lemmas.List.Sorted.{IsPermutation-sym, sorted_far, sum_by-IsPermutation}
use Rattle.std.proofs.lemmas.List.Sums.{sum_by-cons}
use Rattle.std.proofs.lemmas.Map.Keys.{IsDistinct-IsPermutation, Less-from_sorted, sorted_from_all_adjacent}
use Rattle.std.proofs.lemmas.Map.Text.{is_eq-slice_cmp}
use Rattle.std.proofs.lemmas.Slice.Eq.{bytes_eq-Decides}
use Rattle.ob_imports.specs.Files.{DifferInName, File, names_of, paths_of}
use Rattle.ob_imports.specs.Names.{IsRepeat, AreAscending, AreNamesSorted, IsFirstRepeat, texts}
use Rattle.ob_imports.specs.Outcomes.{IsTwoModules}
use Rattle.digraph.proofs.Names.{ascending_apart, below, same_is}

---- number of occurrences

abbrev pub times : List (List ℕ) → List ℕ → ℕ
times [] name = 0
times (x ∷ xs) name = if bytes_eq x name then 1 + times xs name else times xs name

times_sum : (xs : List (List ℕ)) (name : List ℕ) → times xs name ≡ sum_by (λ n. if bytes_eq n name then 1 else 0) xs
times_sum [] name = refl
times_sum (x ∷ xs) name = elim (cases_Bool (bytes_eq x name)) [
  | inl t ↦ rw (sum_by-cons (λ n. if bytes_eq n name then 1 else 0) x xs, t) (ap (λ (k : ℕ). 1 + k) (times_sum xs name))
  | inr f ↦ rw (sum_by-cons (λ n. if bytes_eq n name then 1 else 0) x xs, f) (let rest = times_sum xs name in omega arith)
]

none_from : (xs : List (List ℕ)) (name : List ℕ) → ((i : ℕ) → i < length xs → get_or xs i name ≡ name → ⊥) → times xs name ≡ 0
none_from [] name none = refl
none_from (x ∷ xs) name none =
    let differs : bytes_eq x name ≡ false = false_from_ne_true (bytes_eq x name) (λ t. none 0 (omega arith) ((bytes_eq-Decides x name).0 t)) in
    rw differs (none_from xs name (λ i l e. none (suc i) (omega arith) e))

pub once_from : (xs : List (List ℕ)) (name : List ℕ) → ((i j : ℕ) → i < j → j < length xs → get_or xs i name ≡ name → get_or xs j name ≡ name → ⊥) → times xs name ≤ 1
once_from [] name once = omega arith
once_from (x ∷ xs) name once = elim (cases_Bool (bytes_eq x name)) [
  | inl t ↦
      let rest : times xs name ≡ 0 = none_from xs name (λ i l e. once 0 (suc i) (omega arith) (omega arith) ((bytes_eq-Decides x name).0 t) e) in
      rw (t, rest) (omega arith)
  | inr f ↦
      let rest : times xs name ≤ 1 = once_from xs name (λ i j lt l e g. once (suc i) (suc j) (omega arith) (omega arith) e g) in
      rw f (omega arith)
]

times_more : (x : List ℕ) (xs : List (List ℕ)) (name : List ℕ) → times xs name ≤ times (x ∷ xs) name
times_more x xs name = elim (cases_Bool (bytes_eq x name)) [
  | inl t ↦ rw t (omega arith)
  | inr f ↦ rw f (omega arith)
]

some_from : (xs : List (List ℕ)) (name : List ℕ) (i : ℕ) → i < length xs → get_or xs i name ≡ name → 1 ≤ times xs name
some_from [] name i l e = absurd (omega arith)
some_from (x ∷ xs) name zero l e = rw (same_is x name e) (omega arith)
some_from (x ∷ xs) name (suc i) l e = let rest : 1 ≤ times xs name = some_from xs name i (omega arith) e in let more = times_more x xs name in omega arith

pub twice_from : (xs : List (List ℕ)) (name : List ℕ) (i j : ℕ) → i < j → j < length xs → get_or xs i name ≡ name → get_or xs j name ≡ name → 2 ≤ times xs name
twice_from [] name i j lt l e g = absurd (omega arith)
twice_from (x ∷ xs) name i zero lt l e g = absurd (omega arith)
twice_from (x ∷ xs) name zero (suc j) lt l e g = let rest : 1 ≤ times xs name = some_from xs name j (omega arith) g in rw (same_is x name e) (omega arith)
twice_from (x ∷ xs) name (suc i) (suc j) lt l e g = let rest : 2 ≤ times xs name = twice_from xs name i j (omega arith) (omega arith) e g in let more = times_more x xs name in omega arith

pub paths_times : (files : List File) (name : List ℕ) → length (paths_of files name) ≡ times (names_of files) name
paths_times [] name = refl
paths_times (f ∷ files) name = elim (cases_Bool (bytes_eq f.name name)) [
  | inl t ↦ rw t (let rest = paths_times files name in omega arith)
  | inr e ↦ rw e (paths_times files name)
]

pub times_moved : (xs ys : List (List ℕ)) (name : List ℕ) → IsPermutation xs ys → times ys name ≡ times xs name
times_moved xs ys name moved = times_sum ys name ∙ sum_by-IsPermutation (λ n. if bytes_eq n name then 1 else 0) xs ys moved ∙ sym (times_sum xs name)

---- sorted names

not_below : (a b : List ℕ) → a ≡ b → slice_cmp nat_cmp a b ≡ Less → ⊥
not_below a b e less = false≢true (sym (ap is_eq less) ∙ is_eq-slice_cmp a b ∙ same_is a b e)

none_alike_ascend : (names : List (List ℕ)) → AreNamesSorted names → ((k : ℕ) → k + 1 < length names → IsRepeat names k → ⊥) → AreAscending names
none_alike_ascend names sorted apart = sorted_from_all_adjacent nat_list_cmp_total names [] (λ k within.
    below (get_or names k []) (get_or names (k + 1) []) (sorted k [] (omega arith) within) (apart k within))

pub differ_unless_alike : (files : List File) (names : List (List ℕ)) → IsPermutation (names_of files) names → AreNamesSorted names → ((k : ℕ) → k + 1 < length names → IsRepeat names k → ⊥) → DifferInName files
differ_unless_alike files names moved sorted apart =
    IsDistinct-IsPermutation bytes_eq nat_list_eq_equiv.symm names (names_of files) (IsPermutation-sym (names_of files) names moved) (ascending_apart names (none_alike_ascend names sorted apart))

-- up to the first index whose name repeats, each name is below the later names
front_ascends : (names : List (List ℕ)) (p i j : ℕ) → AreNamesSorted names → p < length names → ((k : ℕ) → k < p → IsRepeat names k → ⊥) → i < j → j ≤ p
    → slice_cmp nat_cmp (get_or names i []) (get_or names j []) ≡ Less
front_ascends names p i j sorted within apart lt le =
    let prefix : List (List ℕ) = take (p + 1) names in
    let long : length prefix ≡ p + 1 = length_take (p + 1) names (omega arith) in
    let up : AreAscending prefix = none_alike_ascend prefix
    (λ k d low l. rw (get_or-take (p + 1) names (k + 1) d (omega arith), get_or-take (p + 1) names k d (omega arith)) (sorted k d low (omega arith)))
    (λ k l alike. apart k (omega arith) (sym (get_or-take (p + 1) names k [] (omega arith)) ∙ alike ∙ get_or-take (p + 1) names (k + 1) [] (omega arith))) in
    rw (← get_or-take (p + 1) names i [] (omega arith), ← get_or-take (p + 1) names j [] (omega arith)) (Less-from_sorted (slice_cmp nat_cmp) prefix i j [] up lt (omega arith))
  where
    length_take : (n : ℕ) (xs : List (List ℕ)) → n ≤ length xs → length (take n xs) ≡ n
    length_take zero xs l = refl
    length_take (suc n) [] l = absurd (omega arith)
    length_take (suc n) (x ∷ xs) l = ap (λ (k : ℕ). suc k) (length_take n xs (omega arith))

same_default : (xs : List (List ℕ)) (k : ℕ) (d e : List ℕ) → k < length xs → get_or xs k d ≡ get_or xs k e
same_default [] k d e l = absurd (omega arith)
same_default (x ∷ xs) zero d e l = refl
same_default (x ∷ xs) (suc k) d e l = same_default xs k d e (omega arith)

least_alike : (names : List (List ℕ)) (p : ℕ) (other : List ℕ) → AreNamesSorted names → IsFirstRepeat names p → slice_cmp nat_cmp other (get_or names p []) ≡ Less → times names other ≤ 1
least_alike names p other sorted first less = once_from names other (λ i j lt l e g.
    let within : p + 1 < length names = first.within in
    let at_i : get_or names i [] ≡ other = same_default names i [] other (omega arith) ∙ e in
    let at_j : get_or names j [] ≡ other = same_default names j [] other l ∙ g in
    elim (cases_lt p j) [
      | inl beyond ↦
          let far : is_lt (slice_cmp nat_cmp (get_or names j []) (get_or names p [])) ≡ false = sorted_far (λ x y. is_lt (slice_cmp nat_cmp x y)) (ranks_by nat_list_cmp_total (λ x. x)) names sorted p j [] (omega arith) l in
          false≢true (sym far ∙ ap (λ (x : List ℕ). is_lt (slice_cmp nat_cmp x (get_or names p []))) at_j ∙ ap is_lt less)
      | inr before ↦ not_below (get_or names i []) (get_or names j []) (at_i ∙ sym at_j) (front_ascends names p i j sorted (omega arith) first.first lt before)
    ])

two_first : (xs : List (List ℕ)) → 2 ≤ length xs → xs ≡ get_or xs 0 [] ∷ get_or xs 1 [] ∷ drop 2 xs
two_first [] l = absurd (omega arith)
two_first (x ∷ []) l = absurd (omega arith)
two_first (x ∷ y ∷ xs) l = refl

-- the first name that occurs twice in a sorted list is the smallest one that two files have
pub many_paths : (files : List File) (names : List (List ℕ)) (p : ℕ) → IsPermutation (names_of files) names → IsFirstRepeat names p → 2 ≤ length (paths_of files (get_or names p []))
many_paths files names p moved first =
    let name = get_or names p [] in
    let within : p + 1 < length names = first.within in
    let two : 2 ≤ times names name = twice_from names name p (p + 1) (omega arith) within (same_default names p name [] (omega arith)) (same_default names (p + 1) name [] within ∙ sym first.alike) in
    let same : times names name ≡ times (names_of files) name = times_moved (names_of files) names name moved in
    let count = paths_times files name in
    omega arith

pub is_two : (files : List File) (names paths : List (List ℕ)) (p : ℕ) → length files ≤ 4096 → IsPermutation (names_of files) names → AreNamesSorted names → IsFirstRepeat names p
    → IsPermutation (paths_of files (get_or names p [])) paths → AreNamesSorted paths → 2 ≤ length paths
    → IsTwoModules files (get_or names p []) (get_or paths 0 []) (get_or paths 1 [])
is_two files names paths p few moved sorted first paths_moved paths_sorted two =
    let whole = two_first paths two in
    record {
      few_modules = few;
      rest = drop 2 paths;
      paths = subst (IsPermutation (paths_of files (get_or names p []))) whole paths_moved;
      in_order = subst AreNamesSorted whole paths_sorted;
      least = λ other many less. (
          let one : times names other ≤ 1 = least_alike names p other sorted first less in
          let same : times names other ≡ times (names_of files) other = times_moved (names_of files) names other moved in
          let count = paths_times files other in
          absurd (omega arith));
    }

module _ {Z : Type 0} where
  pub text_at : (names : List (String Z)) (k : ℕ) (s : String Z) → k < length names → s ≡ get_or names k s → string_bytes s ≡ get_or (texts names) k []
  text_at names k s l is = ap string_bytes is ∙ sym (get_or-map string_bytes names k s [] l)
