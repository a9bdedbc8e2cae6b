-- Sorted lists of imports, and their filtered sublists.
use Rattle.std.proofs.Common.{◌≡◌, ℕ, zero, suc, ◌+◌, ◌≤◌, ◌<◌, Bool, true, false, cond, not, List, [], ◌∷◌, length, get_or, refl, sym, ap, ◌∙◌, subst, arith, Some, None, sum_by}
use Rattle.std.specs.Prelude.{All, Contains, IfSome, find, filter, is_some}
use Rattle.std.proofs.lemmas.Bool.{false_from_ne_true}
use Rattle.std.proofs.lemmas.List.Elements.{Contains-get_or}
use Rattle.std.proofs.lemmas.List.Sums.{sum_by-cons}
use Rattle.std.proofs.lemmas.List.Filters.{sum_by-filter_both}
use Rattle.cut_net.specs.declared.priced.Priced.{Priced}
use Rattle.cut_net.specs.Cuts.{have_equal_ends, weight}
use Rattle.cut_net.specs.Lines.{comes_before, IsAscending, removed_by}
use Rattle.cut_net.proofs.Ends.{apart, before_from, same_from, same_sym, same_true}
use Rattle.cut_net.specs.Network.{missing_item}
use Rattle.cut_net.specs.WellFormed.{AreBetween}

pub ends_in : (imports : List Priced) (n k : ℕ) → AreBetween imports n → k < length imports →
    ((get_or imports k missing_item).from < n) × ((get_or imports k missing_item).to < n)
ends_in imports n k between h = between (get_or imports k missing_item) (Contains-get_or imports k missing_item h)

forth : (i j : Priced) → comes_before i j ≡ true → have_equal_ends i j ≡ false
forth i j e = false_from_ne_true _ (λ t. apart {i = i} {j = j} (before_from i j e) (same_from i j t))

back : (i j : Priced) → comes_before i j ≡ true → have_equal_ends j i ≡ false
back i j e = false_from_ne_true _ (λ t. apart {i = i} {j = j} (before_from i j e) (same_sym (same_from j i t)))

itself : (i : Priced) → have_equal_ends i i ≡ true
itself i = same_true i i (record { from = refl; to = refl })

-- a search passes over what doesn't fit, kept or not
find_past : (p : Priced → Bool) (t : Bool) (x : Priced) (ys : List Priced) → p x ≡ false → find p (cond t (x ∷ ys) ys) ≡ find p ys
find_past p true x ys off = rw off refl
find_past p false x ys off = refl

find_none : (p q : Priced → Bool) (xs : List Priced) → All (λ x. p x ≡ false) xs → find p (filter q xs) ≡ None
find_none p q [] all = refl
find_none p q (x ∷ xs) all = find_past p (q x) x (filter q xs) (all 0 x (omega arith)) ∙ find_none p q xs (λ k d h. all (suc k) d (omega arith))

find_first : (p : Priced → Bool) (t : Bool) (x : Priced) (ys : List Priced) → p x ≡ true → find p ys ≡ None → find p (cond t (x ∷ ys) ys) ≡ cond t (Some x) None
find_first p true x ys on none = rw on refl
find_first p false x ys on none = none

-- of imports in order, one is found where it is kept
pub found : (q : Priced → Bool) (xs : List Priced) → IsAscending xs → (k : ℕ) (d : Priced) → k < length xs →
    find (have_equal_ends (get_or xs k d)) (filter q xs) ≡ cond (q (get_or xs k d)) (Some (get_or xs k d)) None
found q [] up k d h = absurd (omega arith)
found q (x ∷ xs) up zero d h =
    find_first (have_equal_ends x) (q x) x (filter q xs) (itself x) (find_none (have_equal_ends x) q xs (λ k e in_k. forth x (get_or xs k e) (up 0 (suc k) e (omega arith) (omega arith))))
found q (x ∷ xs) up (suc k) d h =
    find_past (have_equal_ends (get_or xs k d)) (q x) x (filter q xs) (back x (get_or xs k d) (up 0 (suc k) d (omega arith) (omega arith)))
    ∙ found q xs (λ i j e less in_j. up (suc i) (suc j) e (omega arith) (omega arith)) k d (omega arith)

some_cond : (t : Bool) (x : Priced) → is_some (cond t (Some x) None) ≡ t
some_cond true x = refl
some_cond false x = refl

pub removed_is : (q : Priced → Bool) (xs : List Priced) → IsAscending xs → (i : Priced) → Contains xs i → removed_by (filter q xs) i ≡ q i
removed_is q xs up i (k, in_k, at_k) =
    subst (λ v. removed_by (filter q xs) v ≡ q v) at_k (ap is_some (found q xs up k i in_k) ∙ some_cond (q (get_or xs k i)) (get_or xs k i))

if_kept : (t : Bool) (i : Priced) → IfSome (cond t (Some i) None) (λ (line : Priced). line.amount ≡ i.amount)
if_kept true i = refl
if_kept false i = tt

-- the line of an import that is kept has its amount
pub each_kept : (q : Priced → Bool) (xs : List Priced) → IsAscending xs → (i : Priced) → Contains xs i → IfSome (find (have_equal_ends i) (filter q xs)) (λ line. line.amount ≡ i.amount)
each_kept q xs up i (k, in_k, at_k) =
    subst (λ v. IfSome (find (have_equal_ends v) (filter q xs)) (λ line. line.amount ≡ v.amount)) at_k
    (subst (λ v. IfSome v (λ (line : Priced). line.amount ≡ (get_or xs k i).amount)) (sym (found q xs up k i in_k)) (if_kept (q (get_or xs k i)) (get_or xs k i)))

cond_sum : (t : Bool) (i : Priced) (ys : List Priced) → sum_by (λ (j : Priced). j.amount) (cond t (i ∷ ys) ys) ≡ cond t i.amount 0 + sum_by (λ (j : Priced). j.amount) ys
cond_sum true i ys = sum_by-cons (λ (j : Priced). j.amount) i ys
cond_sum false i ys = omega arith

-- what is kept weighs what its set weighs
pub weight_kept : (x : Priced → Bool) (imports : List Priced) → sum_by (λ (i : Priced). i.amount) (filter x imports) ≡ weight imports x
weight_kept x [] = refl
weight_kept x (i ∷ more) =
    let rest = weight_kept x more in
    let here = cond_sum (x i) i (filter x more) in
    omega (arith, sum_by-cons (λ (j : Priced). cond (x j) j.amount 0) i more)

pub kept_within : (x : Priced → Bool) (imports : List Priced) → sum_by (λ (i : Priced). i.amount) (filter x imports) ≤ sum_by (λ (i : Priced). i.amount) imports
kept_within x imports = let both = sum_by-filter_both x (λ i. not (x i)) (λ i. refl) (λ (i : Priced). i.amount) imports in omega arith
