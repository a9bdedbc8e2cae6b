-- Lists of modules with increasing names, and how they are made.
use Rattle.std.proofs.Common.{◌≡◌, ℕ, ◌+◌, false, List, get_or, map, sym, ap, ◌∙◌, arith}
use Rattle.std.specs.Prelude.{AllPairs, Contains}
use Rattle.std.specs.Cmp.Lexicographic.{slice_cmp, nat_list_cmp_total}
use Rattle.std.specs.List.{IsDistinct}
use Rattle.std.specs.List.Sorted.{IsSortedBy}
use Rattle.std.specs.Ordering.{is_lt, nat_cmp, ordering_reverse}
use Rattle.std.specs.Str.{bytes_eq}
use Rattle.std.specs.declared.cmp.Ordering.TheVariants.{Less, Greater}
use Rattle.std.proofs.lemmas.Bool.{false≢true}
use Rattle.std.proofs.lemmas.List.{get_or-map, length-map}
use Rattle.std.proofs.lemmas.List.Sorted.{ranks_by, sorted_far}
use Rattle.std.proofs.lemmas.Map.Keys.{apart_from_distinct}
use Rattle.digraph.proofs.Ascending.{same_members}
use Rattle.digraph.proofs.Names.{below, same_is}
use Rattle.ob_interface.specs.Interfaces.{ModuleInterface}
use Rattle.ob_view.specs.ModuleNumbers.{AreByName}
use Rattle.ob_view.proofs.Ascending.{less}

-- sorting by distinct names gives strictly increasing names
pub apart_pairs : {X : Type 0} (name : X → List ℕ) (xs : List X) → IsSortedBy (λ a b. is_lt (slice_cmp nat_cmp (name a) (name b))) xs → IsDistinct bytes_eq (map name xs)
    → AllPairs (λ a b. slice_cmp nat_cmp (name a) (name b) ≡ Less) xs
apart_pairs name xs sorted once i j d lt l =
    let low : is_lt (slice_cmp nat_cmp (name (get_or xs j d)) (name (get_or xs i d))) ≡ false =
    sorted_far (λ a b. is_lt (slice_cmp nat_cmp (name a) (name b))) (ranks_by nat_list_cmp_total name) xs sorted i j d (omega arith) l in
    below (name (get_or xs i d)) (name (get_or xs j d)) low (λ same.
    let apart = apart_from_distinct bytes_eq (map name xs) i j (name d) once lt (omega (arith, l, length-map xs name)) in
    let here = get_or-map name xs i d (name d) (omega (arith, lt, l)) in
    let there = get_or-map name xs j d (name d) l in
    false≢true (sym apart ∙ same_is _ _ (here ∙ same ∙ sym there)))

abbrev pub IsBefore : ModuleInterface → ModuleInterface → Type 0
IsBefore a b = slice_cmp nat_cmp a.name b.name ≡ Less

pub by_pairs : (modules : List ModuleInterface) → AllPairs IsBefore modules → AreByName modules
by_pairs modules pairs k d l = pairs k (k + 1) d (omega arith) l

pub pairs_by : (modules : List ModuleInterface) → AreByName modules → AllPairs IsBefore modules
pairs_by modules ascend i j d lt l = less (λ (m : ModuleInterface). m.name) modules ascend d j i lt l

one_way : (a b : ModuleInterface) → IsBefore a b → IsBefore b a → ⊥
one_way a b p q =
    let turned : slice_cmp nat_cmp a.name b.name ≡ ordering_reverse (slice_cmp nat_cmp b.name a.name) = nat_list_cmp_total.antisymm a.name b.name in
    let bad : Less ≡ Greater = sym p ∙ turned ∙ ap ordering_reverse q in
    cc

-- two sorted lists with the same modules are equal
pub one_by_name : (modules others : List ModuleInterface) → AreByName modules → AreByName others → ((m : ModuleInterface) → Contains modules m → Contains others m)
    → ((m : ModuleInterface) → Contains others m → Contains modules m) → modules ≡ others
one_by_name modules others a b to from = same_members IsBefore one_way modules others (pairs_by modules a) (pairs_by others b) to from
