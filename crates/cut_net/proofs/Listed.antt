-- Lines that are listed with no look for an import among those before it. Where their imports come in order, each before the next, none
-- repeats.
use Rattle.std.proofs.Common.{◌≡◌, ℕ, ◌+◌, ◌<◌, ◌≤◌, suc, true, false, eqb, ltb, ◌&&◌, ◌||◌, List, [], ◌∷◌, ◌++◌, length, get_or, map, refl, sym, ap, ◌∙◌, arith, inl, inr, subst}
use Rattle.std.specs.Prelude.{AllPairs, Contains, IsPermutation, filter}
use Rattle.std.specs.List.{IsDistinct}
use Rattle.std.proofs.lemmas.Bool.{false≢true}
use Rattle.std.proofs.lemmas.Bool.Decides.{nat_tests}
use Rattle.std.proofs.lemmas.List.{get_or-map, length-map, length_push, map_push}
use Rattle.std.proofs.lemmas.List.Elements.{All-nil, All-push, Contains-get_or, Contains-push_cases}
use Rattle.std.proofs.lemmas.List.Kept.{AllPairs-cons}
use Rattle.std.proofs.lemmas.List.Sorted.{IsPermutation-refl, IsPermutation-sym, length_permutation}
use Rattle.std.proofs.lemmas.Map.Keys.{IsDistinct-from_apart, IsDistinct-IsPermutation, apart_from_distinct}
use Rattle.texts.specs.Fields.{is_name}
use Rattle.digraph.proofs.Members.{from_filter, in_filter, in_map, no_member}
use Rattle.cut_net.specs.declared.priced.Priced.{Priced}
use Rattle.cut_net.specs.Cuts.{have_equal_ends}
use Rattle.cut_net.specs.Lines.{IsAscending}
use Rattle.cut_net.specs.NetList.{AreListed, HaveImportBetween}
use Rattle.cut_net.specs.NetReading.{entry_line, import_line, with_name, AreTablesOf, HasRepeat}
use Rattle.cut_net.specs.NetText.{NetLine, Module, Import, is_import, pieces_of, AreValidLines, HaveDifferentImports, IsNetLine, NetText, Spell}
use Rattle.cut_net.specs.Network.{unpinned}
use Rattle.cut_net.specs.WellFormed.{AreBetween, AreNamesInOrder}
use Rattle.cut_net.proofs.Fronts.{good_lines}
use Rattle.cut_net.proofs.Networks.{ends_flip, net_is, once_moved, same_name}
use Rattle.cut_net.proofs.Noted.{there_noted}
use Rattle.cut_net.proofs.Tables.{filter_import, filter_module, kept_both, kept_one, names_import, names_module, noted_longer, noted_kept, stands_twice, AreEnds, AreKept}

-- the list of no lines
pub listed_none : AreListed [] [] []
unfolding IsDistinct
listed_none = record {
  each = All-nil IsNetLine;
  are_names = record { once = tt; named = λ x. (λ present. no_member x present, λ has. no_member has.0 has.1) };
  few_names = omega arith;
  few_imports = omega arith;
  placed = λ i present. no_member i present;
  listed = refl;
}

-- ---- one line more

placed_more : (names more : List (List ℕ)) (imports : List Priced) → AreKept names more → AreBetween imports (length names) → AreBetween imports (length more)
placed_more names more imports kept h i present = let p = h i present in (omega (arith, kept.0, p.0), omega (arith, kept.0, p.1))

lines_kept : (names more : List (List ℕ)) (imports : List Priced) → AreKept names more → AreBetween imports (length names) → map (import_line names) imports ≡ map (import_line more) imports
lines_kept names more [] kept h = refl
lines_kept names more (i ∷ is) kept h =
    let p = h i (0, omega arith, refl) in
    let first : get_or more i.from [] ≡ get_or names i.from [] = kept.1 i.from p.0 in
    let second : get_or more i.to [] ≡ get_or names i.to [] = kept.1 i.to p.1 in
    let rest = lines_kept names more is kept (λ j (k, l, at). h j (suc k, omega arith, at)) in
    rw (first, second, rest) refl

module _ (lines : List NetLine) (names : List (List ℕ)) (imports : List Priced) (h : AreListed lines names imports) where
  pub listed_module : (m : List ℕ) → is_name m ≡ true → length (with_name names m) ≤ 8192 → AreListed (lines ++ Module m ∷ []) (with_name names m) imports
  listed_module m good few = record {
    each = All-push IsNetLine lines (Module m) h.each good;
    are_names = names_module lines names m h.are_names;
    few_names = few;
    few_imports = h.few_imports;
    placed = placed_more names (with_name names m) imports (kept_one names m) h.placed;
    listed = filter_module lines m ∙ h.listed ∙ lines_kept names (with_name names m) imports (kept_one names m) h.placed;
  }

  module _ (middle more : List (List ℕ)) (m n : List ℕ) (w i j : ℕ) (ends : AreEnds names middle more m n i j) where
    all_noted : more ≡ with_name (with_name names m) n
    all_noted = ends.second ∙ ap (λ (t : List (List ℕ)). with_name t n) ends.first

    kept : AreKept names more
    kept = rw all_noted (kept_both names m n)

    from_low : i < length more
    from_low =
        let lt = ends.first_within in
        let longer : length middle ≤ length more = rw ends.second (noted_longer middle n) in
        omega arith

    from_is : get_or more i [] ≡ m
    from_is = (let stays : get_or more i [] ≡ get_or middle i [] = rw ends.second (noted_kept middle n i ends.first_within) in stays ∙ ends.first_place)

    pub listed_import : IsNetLine (Import m n w) → length more ≤ 8192 → length imports + 1 ≤ 65536
        → AreListed (lines ++ Import m n w ∷ []) more (imports ++ (record { from = i; to = j; amount = w }) ∷ [])
    listed_import good few few_imports =
        let last : Import m n w ≡ import_line more (record { from = i; to = j; amount = w }) = rw (from_is, ends.second_place) refl in
        record {
          each = All-push IsNetLine lines (Import m n w) h.each good;
          are_names = rw all_noted (names_import lines names m n w h.are_names);
          few_names = few;
          few_imports = omega (arith, length_push imports (record { from = i; to = j; amount = w }));
          placed = λ x present. elim (Contains-push_cases imports (record { from = i; to = j; amount = w }) x present) [
            | inl old ↦ placed_more names more imports kept h.placed x old
            | inr same ↦ subst (λ (t : Priced). (t.from < length more) × (t.to < length more)) same (from_low, ends.second_within)
          ];
          listed = filter_import lines m n w ∙ ap (λ (t : List NetLine). t ++ Import m n w ∷ []) (h.listed ∙ lines_kept names more imports kept h.placed)
              ∙ ap (λ (t : NetLine). map (import_line more) imports ++ t ∷ []) last ∙ sym (map_push (import_line more) imports (record { from = i; to = j; amount = w }));
        }

-- a line whose import the list has
pub listed_twice : (lines : List NetLine) (names middle more : List (List ℕ)) (imports : List Priced) (m n : List ℕ) (w i j : ℕ) → AreListed lines names imports → AreEnds names middle more m n i j
    → HaveImportBetween imports i j → HasRepeat lines (Import m n w) × AreListed lines more imports
listed_twice lines names middle more imports m n w i j h ends (x, present, from, to) =
    let p = h.placed x present in
    let in_i : i < length names = subst (λ (t : ℕ). t < length names) from p.0 in
    let in_j : j < length names = subst (λ (t : ℕ). t < length names) to p.1 in
    let first : get_or names i [] ≡ m = sym (noted_kept names m i in_i) ∙ ap (λ (t : List (List ℕ)). get_or t i []) (sym ends.first) ∙ ends.first_place in
    let middle_is : middle ≡ names = ends.first ∙ sym (there_noted names m i in_i first) in
    let more_is : more ≡ with_name names n = ends.second ∙ ap (λ (t : List (List ℕ)). with_name t n) middle_is in
    let second : get_or names j [] ≡ n = sym (noted_kept names n j in_j) ∙ ap (λ (t : List (List ℕ)). get_or t j []) (sym more_is) ∙ ends.second_place in
    let same : more ≡ names = more_is ∙ sym (there_noted names n j in_j second) in
    let line : import_line names x ≡ Import m n x.amount = rw (from, to, first, second) refl in
    let listed : Contains (filter is_import lines) (import_line names x) = rw h.listed (in_map (import_line names) imports x present) in
    let stands : Contains lines (Import m n x.amount) = subst (λ (l : NetLine). Contains lines l) line (from_filter is_import lines (import_line names x) listed) in
    (stands_twice lines m n w x.amount stands, subst (λ (t : List (List ℕ)). AreListed lines t imports) (sym same) h)

-- ---- imports in order

other_ends : (a b c d : ℕ) → (ltb a c || (eqb a c && ltb b d)) ≡ true → (eqb a c && eqb b d) ≡ false
other_ends a b c d before = grind (arith, nat_tests)

ascending_once : (imports : List Priced) → IsAscending imports → IsDistinct have_equal_ends imports
ascending_once imports up = IsDistinct-from_apart have_equal_ends imports (λ i j d less within.
    other_ends (get_or imports i d).from (get_or imports i d).to (get_or imports j d).from (get_or imports j d).to (up i j d less within))

-- a line of a module is apart from all
modules_apart : (l k : NetLine) → (is_import l ≡ true → is_import k ≡ true → HaveDifferentImports l k) → HaveDifferentImports l k
modules_apart (Module _) (Module _) h = tt
modules_apart (Module _) (Import _ _ _) h = tt
modules_apart (Import _ _ _) (Module _) h = tt
modules_apart (Import _ _ _) (Import _ _ _) h = h refl refl

-- so if the imports are distinct, all lines are
all_apart : (lines : List NetLine) → AllPairs HaveDifferentImports (filter is_import lines) → AllPairs HaveDifferentImports lines
all_apart [] pairs = λ i j d less within. absurd (omega arith)
all_apart (Module m ∷ lines) pairs =
    AllPairs-cons HaveDifferentImports (Module m) lines (λ k d l. modules_apart (Module m) (get_or lines k d) (λ a b. absurd (false≢true a))) (all_apart lines pairs)
all_apart (Import m n w ∷ lines) pairs =
    let first = Import m n w in
    AllPairs-cons HaveDifferentImports first lines
    (λ k d l. modules_apart first (get_or lines k d) (λ a b.
    let (p, in_rest, at) = in_filter is_import lines (get_or lines k d) b (Contains-get_or lines k d l) in
    subst (HaveDifferentImports first) at (pairs 0 (suc p) (get_or lines k d) (omega arith) (omega arith))))
    (all_apart lines (λ i j d less within. pairs (suc i) (suc j) d (omega arith) (omega arith)))

-- the indices of the two names, with the amount
abbrev as_entry : Priced → (ℕ × ℕ) × ℕ
as_entry i = ((i.from, i.to), i.amount)

entries_say : (names : List (List ℕ)) (imports : List Priced) → map (import_line names) imports ≡ map (entry_line names) (map as_entry imports)
entries_say names [] = refl
entries_say names (i ∷ is) = ap (λ (t : List NetLine). import_line names i ∷ t) (entries_say names is)

module _ (lines : List NetLine) (old names : List (List ℕ)) (imports list ordered : List Priced) (h : AreListed lines old imports) (same : IsPermutation old names)
    (renumbered_import : map (import_line names) list ≡ map (import_line old) imports) (between : AreBetween list (length names)) (moved : IsPermutation list ordered) (up : IsAscending ordered) where
  list_once : IsDistinct have_equal_ends list
  list_once = IsDistinct-IsPermutation have_equal_ends ends_flip ordered list (IsPermutation-sym list ordered moved) (ascending_once ordered up)

  said_apart : (i j : Priced) → i.from < length names → i.to < length names → j.from < length names → j.to < length names → have_equal_ends i j ≡ false → HaveDifferentImports (import_line names i) (import_line names j)
  said_apart i j a b c d differ first second =
      let once = once_moved old names same h.are_names.once in
      let from = same_name names once i.from j.from a c first in
      let to = same_name names once i.to j.to b d second in
      false≢true (sym differ ∙ both_same i.from i.to j.from j.to from to)
    where
      both_same : (a b c d : ℕ) → a ≡ c → b ≡ d → (eqb a c && eqb b d) ≡ true
      both_same a b c d first second = grind (arith, nat_tests)

  lines_apart : AllPairs HaveDifferentImports lines
  lines_apart =
      let lines_are : filter is_import lines ≡ map (import_line names) list = h.listed ∙ sym renumbered_import in
      let long = length-map list (import_line names) in
      let pairs : AllPairs HaveDifferentImports (map (import_line names) list) = λ i j d less within.
      let none : Priced = record { from = 0; to = 0; amount = 0 } in
      let in_i : i < length list = omega arith in
      let in_j : j < length list = omega arith in
      let one = get_or-map (import_line names) list i none d in_i in
      let two = get_or-map (import_line names) list j none d in_j in
      let p = between (get_or list i none) (Contains-get_or list i none in_i) in
      let q = between (get_or list j none) (Contains-get_or list j none in_j) in
      rw (one, two) (said_apart (get_or list i none) (get_or list j none) p.0 p.1 q.0 q.1 (apart_from_distinct have_equal_ends list i j none list_once less in_j)) in
      all_apart lines (rw lines_are pairs)

  tables : AreTablesOf lines old (map as_entry imports)
  tables =
      let long = length-map imports as_entry in
      let few = h.few_imports in
      record {
        each = h.each;
        apart = lines_apart;
        are_names = h.are_names;
        few_names = h.few_names;
        few_imports = omega arith;
        placed = λ k d l.
            let none : Priced = record { from = 0; to = 0; amount = 0 } in
            let in_k : k < length imports = omega arith in
            rw (get_or-map as_entry imports k none d in_k) (h.placed (get_or imports k none) (Contains-get_or imports k none in_k));
        listed = h.listed ∙ entries_say old imports;
      }

  pub listed_text : (bytes : List ℕ) → AreNamesInOrder names → Spell (pieces_of bytes) lines → NetText bytes (unpinned names ordered)
  listed_text bytes ascend spelled = record {
    lines = lines;
    spelled = spelled;
    good = good_lines lines old (map as_entry imports) tables;
    is_net = net_is lines old names (map as_entry imports) list tables (renumbered_import ∙ entries_say old imports) ordered ascend same between moved up;
  }

  pub few_ordered : length ordered ≤ 65536
  few_ordered =
      let a = length_permutation list ordered moved in
      let b = ap length renumbered_import in
      let c = length-map list (import_line names) in
      let d = length-map imports (import_line old) in
      let few = h.few_imports in
      omega arith

-- lines whose imports are strictly sorted after sorting are distinct
pub listed_good : (lines : List NetLine) (names : List (List ℕ)) (imports ordered : List Priced) → AreListed lines names imports → IsPermutation imports ordered → IsAscending ordered → AreValidLines lines
listed_good lines names imports ordered h moved up =
    good_lines lines names (map as_entry imports) (tables lines names names imports imports ordered h (IsPermutation-refl names) refl h.placed moved up)
