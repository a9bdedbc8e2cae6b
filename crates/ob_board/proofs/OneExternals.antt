-- The list of external symbols is determined by its elements.
use Rattle.std.proofs.Common.{◌≡◌, ℕ, List, get_or, map, sym, ap, ◌∙◌, subst, arith}
use Rattle.std.specs.Prelude.{AllPairs}
use Rattle.std.specs.Cmp.Lexicographic.{slice_cmp, nat_list_cmp_total}
use Rattle.std.specs.List.Sorted.{IsStrictlySortedBy}
use Rattle.std.specs.Ordering.{nat_cmp, ordering_reverse}
use Rattle.std.specs.declared.cmp.Ordering.TheVariants.{Less, Greater}
use Rattle.std.proofs.lemmas.List.{length-map, get_or-map}
use Rattle.std.proofs.lemmas.Map.Keys.{Less-from_sorted}
use Rattle.digraph.proofs.Ascending.{same_members}
use Rattle.ob_emit.specs.Externals.{AreExternals}
use Rattle.scip_index.specs.Plain.{SymbolModel}

abbrev IsBefore : SymbolModel → SymbolModel → Type 0
IsBefore x y = slice_cmp nat_cmp x.symbol y.symbol ≡ Less

one_way : (x y : SymbolModel) → IsBefore x y → IsBefore y x → ⊥
one_way x y a b =
    let turned : slice_cmp nat_cmp x.symbol y.symbol ≡ ordering_reverse (slice_cmp nat_cmp y.symbol x.symbol) = nat_list_cmp_total.antisymm x.symbol y.symbol in
    let bad : Less ≡ Greater = sym a ∙ turned ∙ ap ordering_reverse b in
    cc

abbrev texts : List SymbolModel → List (List ℕ)
texts rows = map (λ (x : SymbolModel). x.symbol) rows

in_order : (rows : List SymbolModel) → IsStrictlySortedBy (slice_cmp nat_cmp) (texts rows) → AllPairs IsBefore rows
in_order rows sorted i j d below within =
    let long = length-map rows (λ (x : SymbolModel). x.symbol) in
    let less = Less-from_sorted (slice_cmp nat_cmp) (texts rows) i j d.symbol sorted below (omega arith) in
    subst (λ (t : List ℕ). slice_cmp nat_cmp t (get_or rows j d).symbol ≡ Less) (get_or-map (λ (x : SymbolModel). x.symbol) rows i d d.symbol (omega arith))
    (subst (λ (t : List ℕ). slice_cmp nat_cmp (get_or (texts rows) i d.symbol) t ≡ Less) (get_or-map (λ (x : SymbolModel). x.symbol) rows j d d.symbol within) less)

pub one_externals : (of rows others : List SymbolModel) → AreExternals of rows → AreExternals of others → rows ≡ others
one_externals of rows others a b =
    same_members IsBefore one_way rows others (in_order rows a.ordered) (in_order others b.ordered)
    (λ x has. (b.each x).1 ((a.each x).0 has)) (λ x has. (a.each x).1 ((b.each x).0 has))
