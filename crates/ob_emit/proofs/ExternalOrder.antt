-- Symbol information that is sorted by symbol string, each symbol once.
use Rattle.std.proofs.Common.{◌≡◌, ℕ, Bool, List, [], ◌∷◌, map, sym, ◌∙◌, subst}
use Rattle.std.specs.Prelude.{Contains, IsPermutation}
use Rattle.std.specs.Cmp.{IsTotalOrder, IsEquivalence}
use Rattle.std.specs.Cmp.Lexicographic.{slice_cmp, nat_list_eq_equiv}
use Rattle.std.specs.List.{AllByRecursion, dedup}
use Rattle.std.specs.List.Sorted.{IsSorted, IsStrictlySortedBy}
use Rattle.std.specs.Ordering.{nat_cmp, eq_by_cmp}
use Rattle.std.specs.declared.cmp.Ordering.{Ordering}
use Rattle.std.specs.declared.cmp.Ordering.TheVariants.{Less}
use Rattle.std.specs.Str.{bytes_eq}
use Rattle.std.specs.String.{string_bytes, string_cmp_total}
use Rattle.std.proofs.lemmas.Cmp.{on_total, on_equiv}
use Rattle.std.proofs.lemmas.List.Kept.{IsStrictlySortedBy-dedup, Any-dedup, Contains-from_dedup}
use Rattle.std.proofs.lemmas.List.Sorted.{IsPermutation-sym, Contains-permutation}
use Rattle.std.proofs.lemmas.Map.Text.{is_eq-slice_cmp}
use Rattle.std.proofs.lemmas.Slice.Eq.{bytes_eq-Decides}
use Rattle.module_table.proofs.Elements.{contains_of, of_contains, slice_contains, contains_slice}
use Rattle.scip_index.specs.declared.index.SymbolInfo.{SymbolInfo}
use Rattle.scip_index.specs.Plain.{symbol_model, SymbolModel as SymbolRow}
use Rattle.ob_emit.specs.Externals.{AreExternalRows, AreExternals}
use Rattle.ob_emit.proofs.ExternalTexts.{one_row}

abbrev pub symbol_cmp : SymbolInfo → SymbolInfo → Ordering
symbol_cmp a b = slice_cmp nat_cmp (string_bytes a.symbol) (string_bytes b.symbol)

abbrev pub symbol_eq : SymbolInfo → SymbolInfo → Bool
symbol_eq a b = bytes_eq (string_bytes a.symbol) (string_bytes b.symbol)

pub symbol_total : IsTotalOrder symbol_cmp
symbol_total = on_total (λ (s : SymbolInfo). s.symbol) string_cmp_total

symbol_equiv : IsEquivalence symbol_eq
symbol_equiv = on_equiv (λ (s : SymbolInfo). string_bytes s.symbol) nat_list_eq_equiv

ties : (x y : SymbolInfo) → symbol_eq x y ≡ eq_by_cmp symbol_cmp x y
ties x y = sym (is_eq-slice_cmp (string_bytes x.symbol) (string_bytes y.symbol))

abbrev symbols : List SymbolInfo → List (List ℕ)
symbols rows = map (λ (x : SymbolRow). x.symbol) (map symbol_model rows)

all_texts : (x : SymbolInfo) (xs : List SymbolInfo) → AllByRecursion (λ y. symbol_cmp x y ≡ Less) xs → AllByRecursion (λ t. slice_cmp nat_cmp (string_bytes x.symbol) t ≡ Less) (symbols xs)
all_texts x [] h = tt
all_texts x (y ∷ xs) h = (h.0, all_texts x xs h.1)

sorted_texts : (xs : List SymbolInfo) → IsStrictlySortedBy symbol_cmp xs → IsStrictlySortedBy (slice_cmp nat_cmp) (symbols xs)
unfolding IsStrictlySortedBy
sorted_texts [] h = tt
sorted_texts (x ∷ xs) h = (all_texts x xs h.0, sorted_texts xs h.1)

-- an element of the list, as its model
plain_there : (rows : List SymbolInfo) (x : SymbolInfo) → Contains rows x → Contains (map symbol_model rows) (symbol_model x)
plain_there rows x h = let at = slice_contains rows x h in contains_of symbol_model rows at.0 x at.1

module _ (old sorted new : List SymbolInfo) (outside : AreExternalRows (map symbol_model old)) (moved : IsPermutation old sorted) (e : new ≡ dedup symbol_eq sorted) where
  back : (y : SymbolInfo) → Contains sorted y → Contains old y
  back y h = Contains-permutation sorted old y (IsPermutation-sym old sorted moved) h

  only : (x : SymbolRow) → Contains (map symbol_model new) x → Contains (map symbol_model old) x
  only x h =
      let at = of_contains symbol_model new x h in
      let there : Contains (dedup symbol_eq sorted) at.1 = subst (λ (rows : List SymbolInfo). Contains rows at.1) e (contains_slice new at.0 at.1 at.2) in
      subst (λ (r : SymbolRow). Contains (map symbol_model old) r) at.3 (plain_there old at.1 (back at.1 (Contains-from_dedup symbol_eq sorted at.1 there)))

  all : (x : SymbolRow) → Contains (map symbol_model old) x → Contains (map symbol_model new) x
  all x h =
      let at = of_contains symbol_model old x h in
      let here : Contains sorted at.1 = Contains-permutation old sorted at.1 moved (contains_slice old at.0 at.1 at.2) in
      let stored_text = Any-dedup symbol_equiv sorted at.1 here in
      let there : Contains (dedup symbol_eq sorted) stored_text.1 = (stored_text.0, stored_text.2, stored_text.3) in
      let texts : string_bytes at.1.symbol ≡ string_bytes stored_text.1.symbol = (bytes_eq-Decides (string_bytes at.1.symbol) (string_bytes stored_text.1.symbol)).0 stored_text.4 in
      let first = outside (symbol_model at.1) (plain_there old at.1 (contains_slice old at.0 at.1 at.2)) in
      let second = outside (symbol_model stored_text.1) (plain_there old stored_text.1 (back stored_text.1 (Contains-from_dedup symbol_eq sorted stored_text.1 there))) in
      let same : symbol_model at.1 ≡ symbol_model stored_text.1 = one_row (symbol_model at.1) (symbol_model stored_text.1) first second texts in
      let new_there : Contains new stored_text.1 = subst (λ (rows : List SymbolInfo). Contains rows stored_text.1) (sym e) there in
      subst (λ (r : SymbolRow). Contains (map symbol_model new) r) (sym same ∙ at.3) (plain_there new stored_text.1 new_there)

  pub in_order : IsSorted symbol_cmp sorted → AreExternals (map symbol_model old) (map symbol_model new)
  in_order s = record {
    ordered = subst (λ (rows : List SymbolInfo). IsStrictlySortedBy (slice_cmp nat_cmp) (symbols rows)) (sym e) (sorted_texts (dedup symbol_eq sorted) (IsStrictlySortedBy-dedup symbol_total ties sorted s));
    each = λ x. (only x, all x);
  }

-- the elements stay the same when they are sorted
pub rows_stay : (old new : List SymbolRow) → AreExternals old new → AreExternalRows old → AreExternalRows new
rows_stay old new e h x there = h x ((e.each x).0 there)
