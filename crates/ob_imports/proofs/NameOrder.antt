-- The numbers of names, in the order of the names.
use Rattle.std.proofs.Common.{◌≡◌, ℕ, ◌+◌, ◌<◌, false, List, [], ◌∷◌, length, get_or, map, refl, ap, ◌∙◌, arith, subst, Ordering}
use Rattle.std.specs.Prelude.{All, IsPermutation}
use Rattle.std.specs.Borrow.{Bor}
use Rattle.std.specs.List.{IsDistinct}
use Rattle.std.specs.List.Sorted.{IsSorted}
use Rattle.std.specs.Ordering.{is_lt, nat_cmp, ordering_then}
use Rattle.std.specs.Cmp.Lexicographic.{slice_cmp, nat_list_eq_equiv}
use Rattle.std.specs.Str.{bytes_eq}
use Rattle.std.specs.declared.cmp.Ordering.TheVariants.{Less, Equal, Greater}
use Rattle.std.proofs.lemmas.List.{get_or-map, length-map}
use Rattle.std.proofs.lemmas.List.Elements.{All-head, All-map, All-tail}
use Rattle.std.proofs.lemmas.List.Sorted.{All-permutation, IsPermutation-map}
use Rattle.std.proofs.lemmas.Map.Keys.{IsDistinct-IsPermutation}
use Rattle.digraph.proofs.Names.{apart_ascend}
use Rattle.ob_imports.specs.Names.{names_by, IsByName}
use Rattle.ob_imports.specs.Numbering.{IsNumbered}

abbrev pub pair_cmp : Bor (List ℕ) × ℕ → Bor (List ℕ) × ℕ → Ordering
pair_cmp p q = ordering_then (slice_cmp nat_cmp p.0.now q.0.now) (nat_cmp p.1 q.1)

abbrev pub name_in : Bor (List ℕ) × ℕ → List ℕ
name_in p = p.0.now

first_not_less : (a b : Ordering) → is_lt (ordering_then a b) ≡ false → is_lt a ≡ false
first_not_less Less b e = e
first_not_less Equal b e = refl
first_not_less Greater b e = refl

names_sorted : (ps : List (Bor (List ℕ) × ℕ)) → IsSorted pair_cmp ps → IsSorted (slice_cmp nat_cmp) (map name_in ps)
names_sorted [] h k d low l = absurd (omega arith)
names_sorted (p ∷ ps) h k d low l =
    let long = length-map (p ∷ ps) name_in in
    rw (get_or-map name_in (p ∷ ps) k p d (omega arith), get_or-map name_in (p ∷ ps) (k + 1) p d (omega arith)) (first_not_less _ _ (h k p low (omega arith)))

named_by : (names : List (List ℕ)) (ps : List (Bor (List ℕ) × ℕ)) → All (IsNumbered names) ps → names_by names (map (λ p. p.1) ps) ≡ map name_in ps
named_by names [] h = refl
named_by names (p ∷ ps) h =
    let first : get_or names p.1 [] ≡ p.0.now = (All-head (IsNumbered names) p ps h).named in
    ap (λ (n : List ℕ). n ∷ names_by names (map (λ q. q.1) ps)) first ∙ ap (λ (ns : List (List ℕ)). p.0.now ∷ ns) (named_by names ps (All-tail (IsNumbered names) p ps h))

pub is_by_name : (names : List (List ℕ)) (ps sorted : List (Bor (List ℕ) × ℕ)) (order : List ℕ) → IsDistinct bytes_eq names → map name_in ps ≡ names → All (IsNumbered names) ps
    → IsPermutation ps sorted → IsSorted pair_cmp sorted → order ≡ map (λ p. p.1) sorted → IsByName names order
is_by_name names ps sorted order once are number_names moved in_order is =
    let all = All-permutation (IsNumbered names) ps sorted moved number_names in
    let named : names_by names order ≡ map name_in sorted = ap (names_by names) is ∙ named_by names sorted all in
    let same : IsPermutation names (map name_in sorted) = subst (λ (ns : List (List ℕ)). IsPermutation ns (map name_in sorted)) are (IsPermutation-map name_in ps sorted moved) in
    record {
      within = rw is (All-map (λ v. v < length names) (λ p. p.1) sorted (λ k d l. (all k d l).within));
      same = rw named same;
      ascend = rw named (apart_ascend (map name_in sorted) (names_sorted sorted in_order) (IsDistinct-IsPermutation bytes_eq nat_list_eq_equiv.symm names (map name_in sorted) same once));
    }
