-- One more line of prices: its import, and what is told of the imports after it.
use Rattle.std.proofs.Common.{◌≡◌, ◌≢◌, ℕ, suc, zero, ◌<◌, Bool, true, false, List, [], ◌∷◌, ◌++◌, length, get_or, map, refl, sym, ap, ◌∙◌, subst, arith, inl, inr}
use Rattle.std.specs.Prelude.{◌⊎◌, AllPairs, Contains, IfNone, IfSome, Option, Some, None, find, is_some, option_map, replicate, slice_set}
use Rattle.std.specs.Option.{option_or}
use Rattle.std.proofs.lemmas.Bool.{and_from, and_parts, both_ways, cases_Bool, cases_order}
use Rattle.std.proofs.lemmas.List.{ext_get_or, get_or-map, get_or-set_other, get_or-set_same, get_or_append_left, get_or_push, get_or-replicate, length-map, length-replicate, length-set, length_push}
use Rattle.std.proofs.lemmas.List.Elements.{All-nil, All-push, Contains-get_or}
use Rattle.std.proofs.lemmas.List.Folds.{find-append}
use Rattle.std.proofs.lemmas.List.Quantifiers.{all_pairs_push}
use Rattle.std.proofs.lemmas.Slice.Eq.{bytes_eq-Decides}
use Rattle.digraph.proofs.Names.{ascending_apart}
use Rattle.digraph.proofs.Members.{first_member, later_member, no_member}
use Rattle.cut_net.specs.declared.priced.Priced.{Priced}
use Rattle.cut_net.specs.declared.pin_state.Change.{Change}
use Rattle.cut_net.specs.Cuts.{have_equal_ends}
use Rattle.cut_net.specs.Network.{Network, index_of, name_of, missing_item}
use Rattle.cut_net.specs.Prices.{PriceLine, ChangeDifferentImports, IsOfImport, IsPriceLine, SpellPrices, is_named, changes_import, price_line, change_of}
use Rattle.cut_net.specs.PriceReading.{AreChanges}
use Rattle.cut_net.specs.WellFormed.{AreNamesInOrder, IsNetwork}
use Rattle.cut_net.proofs.Ends.{Same, apart, before_from, same_from, same_true}
use Rattle.cut_net.proofs.Networks.{same_name}
use Rattle.cut_net.proofs.Places.{index_again, index_takes}
use Rattle.cut_net.proofs.PriceLines.{line_written}
use Rattle.cut_net.proofs.Search.{AreApart}
use Rattle.texts.proofs.FieldCuts.{some_is}

module _ {X : Type 0} (p : X → Bool) where
  -- a found element is in the list and satisfies the test
  pub find_some : (xs : List X) (x : X) → find p xs ≡ Some x → Contains xs x × (p x ≡ true)
  find_some [] x e = absurd cc
  find_some (y ∷ xs) x e = elim (cases_Bool (p y)) [
    | inl passes ↦ let same : y ≡ x = some_is y x (rw passes at e) in (first_member y xs x same, subst (λ (z : X). p z ≡ true) same passes)
    | inr fails ↦ let later = find_some xs x (rw fails at e) in (later_member y xs x later.0, later.1)
  ]

  -- if nothing is found, no element satisfies the test
  pub find_none : (xs : List X) → find p xs ≡ None → (x : X) → Contains xs x → p x ≡ false
  find_none [] e x has = no_member x has
  find_none (y ∷ xs) e x (k, lt, at) = by (cases_Bool (p y)) k lt at (λ none has. find_none xs none x has)
    where
      by : (p y ≡ true) ⊎ (p y ≡ false) → (k : ℕ) → k < length (y ∷ xs) → get_or (y ∷ xs) k x ≡ x → (find p xs ≡ None → Contains xs x → p x ≡ false) → p x ≡ false
      by (inl passes) k lt at later = let bad : Some y ≡ None = rw passes at e in absurd cc
      by (inr fails) zero lt at later = ap p (sym at) ∙ fails
      by (inr fails) (suc k) lt at later = later (rw fails at e) (k, omega arith, at)

pub map_some_is : {X Y : Type 0} (f : X → Y) (o : Option X) (y : Y) → option_map f o ≡ Some y → (x : X) × (o ≡ Some x)
map_some_is f (Some x) y e = (x, refl)
map_some_is f None y e = absurd cc

pub map_none_is : {X Y : Type 0} (f : X → Y) (o : Option X) → option_map f o ≡ None → o ≡ None
map_none_is f (Some x) e = absurd cc
map_none_is f None e = refl

-- ---- names

pub names_apart : (names : List (List ℕ)) → AreNamesInOrder names → AreApart names
names_apart names up i j below lt e = let same = same_name names (ascending_apart names up) i j (omega arith) lt e in omega arith

pub named_is : (net : Network) (m n : List ℕ) (i : Priced) → is_named net m n i ≡ true → (m ≡ name_of net i.from) × (n ≡ name_of net i.to)
named_is net m n i e = let p = and_parts _ _ e in ((bytes_eq-Decides m (name_of net i.from)).0 p.0, (bytes_eq-Decides n (name_of net i.to)).0 p.1)

pub named_true : (net : Network) (m n : List ℕ) (i : Priced) → m ≡ name_of net i.from → n ≡ name_of net i.to → is_named net m n i ≡ true
named_true net m n i e f = and_from _ _ ((bytes_eq-Decides m (name_of net i.from)).1 e) ((bytes_eq-Decides n (name_of net i.to)).1 f)

abbrev ends : ℕ → ℕ → Priced
ends a b = record { from = a; to = b; amount = 0 }

pub number_found : (net : Network) (m n : List ℕ) (a b : ℕ) (o : Option ℕ) → index_of net m ≡ Some a → index_of net n ≡ Some b → IfSome o (λ k. k < length net.imports)
    → IfSome o (λ k. find (have_equal_ends (ends a b)) net.imports ≡ Some (get_or net.imports k missing_item))
    → IfSome o (λ k. (k < length net.imports) × (is_named net m n (get_or net.imports k missing_item) ≡ true))
number_found net m n a b None from to within found = tt
number_found net m n a b (Some k) from to within found =
    let i = get_or net.imports k missing_item in
    let p = find_some (have_equal_ends (ends a b)) net.imports i found in
    let s = same_from (ends a b) i p.1 in
    (within, named_true net m n i (sym (index_takes net m a from).1 ∙ ap (name_of net) s.from) (sym (index_takes net n b to).1 ∙ ap (name_of net) s.to))

-- no import has these names
module _ (net : Network) (is : IsNetwork net) (m n : List ℕ) where
  pub no_first : index_of net m ≡ None → (i : Priced) → Contains net.imports i → is_named net m n i ≡ true → ⊥
  no_first none i c e =
      let p = named_is net m n i e in
      let again : index_of net m ≡ Some i.from = ap (index_of net) p.0 ∙ index_again net i.from (names_apart net.names is.names_ascend) (is.between i c).0 in
      let bad : Some i.from ≡ None = sym again ∙ none in
      absurd cc

  pub no_second : index_of net n ≡ None → (i : Priced) → Contains net.imports i → is_named net m n i ≡ true → ⊥
  no_second none i c e =
      let p = named_is net m n i e in
      let again : index_of net n ≡ Some i.to = ap (index_of net) p.1 ∙ index_again net i.to (names_apart net.names is.names_ascend) (is.between i c).1 in
      let bad : Some i.to ≡ None = sym again ∙ none in
      absurd cc

  pub no_ends : (a b : ℕ) (o : Option ℕ) → index_of net m ≡ Some a → index_of net n ≡ Some b → IfNone o (find (have_equal_ends (ends a b)) net.imports ≡ None)
      → IfNone o ((i : Priced) → Contains net.imports i → is_named net m n i ≡ true → ⊥)
  no_ends a b (Some k) from to none = tt
  no_ends a b None from to none = λ i c e.
      let p = named_is net m n i e in
      let first : Some a ≡ Some i.from = sym from ∙ ap (index_of net) p.0 ∙ index_again net i.from (names_apart net.names is.names_ascend) (is.between i c).0 in
      let second : Some b ≡ Some i.to = sym to ∙ ap (index_of net) p.1 ∙ index_again net i.to (names_apart net.names is.names_ascend) (is.between i c).1 in
      both_ways (have_equal_ends (ends a b) i) (find_none (have_equal_ends (ends a b)) net.imports none i c)
      (same_true (ends a b) i (record { from = some_is a i.from first; to = some_is b i.to second }))

pub absent_is : {T : Type 0} (o : Option ℕ) → IfNone o T → ((x : ℕ) → o ≡ Some x → ⊥) → T
absent_is None t none = t
absent_is (Some x) t none = absurd (none x refl)

-- ---- the changes after one more line

module _ (net : Network) (is : IsNetwork net) where
  -- one import has two names
  pub same_place : (j k : ℕ) (m n : List ℕ) → j < length net.imports → k < length net.imports → is_named net m n (get_or net.imports j missing_item) ≡ true → is_named net m n (get_or net.imports k missing_item) ≡ true → j ≡ k
  same_place j k m n lj lk e f =
      let i = get_or net.imports j missing_item in
      let l = get_or net.imports k missing_item in
      let p = named_is net m n i e in
      let q = named_is net m n l f in
      let ib = is.between i (Contains-get_or net.imports j missing_item lj) in
      let lb = is.between l (Contains-get_or net.imports k missing_item lk) in
      let once = ascending_apart net.names is.names_ascend in
      let same : Same i l = record {
        from = same_name net.names once i.from l.from ib.0 lb.0 (sym p.0 ∙ q.0);
        to = same_name net.names once i.to l.to ib.1 lb.1 (sym p.1 ∙ q.1);
      } in
      elim (cases_order j k) [
        | inl e ↦ e
        | inr differs ↦ elim differs [
          | inl less ↦ absurd (apart (before_from i l (is.imports_ascend j k missing_item less lk)) same)
          | inr more ↦ absurd (apart (before_from l i (is.imports_ascend k j missing_item more lj)) (record { from = sym same.from; to = sym same.to }))
        ]
      ]

  said_other : (lines : List PriceLine) (line : PriceLine) (i : Priced) → changes_import net i line ≡ false → change_of net (lines ++ line ∷ []) i ≡ change_of net lines i
  said_other lines line i e =
      ap (option_map (λ (l : PriceLine). l.change)) (find-append (changes_import net i) lines (line ∷ []) ∙ by (find (changes_import net i) lines))
    where
      by : (o : Option PriceLine) → option_or o (find (changes_import net i) (line ∷ [])) ≡ o
      by (Some l) = refl
      by None = rw e refl

  said_here : (lines : List PriceLine) (line : PriceLine) (i : Priced) → changes_import net i line ≡ true → change_of net lines i ≡ None → change_of net (lines ++ line ∷ []) i ≡ Some line.change
  said_here lines line i e none =
      let shown : option_or (find (changes_import net i) lines) (find (changes_import net i) (line ∷ [])) ≡ Some line = rw (map_none_is (λ (l : PriceLine). l.change) (find (changes_import net i) lines) none, e) refl in
      ap (option_map (λ (l : PriceLine). l.change)) (find-append (changes_import net i) lines (line ∷ []) ∙ shown)

  module _ (lines : List PriceLine) (changes : List (Option Change)) (h : AreChanges net lines changes) (line : PriceLine) (good : IsPriceLine line) (k : ℕ) (lt : k < length net.imports)
      (of : changes_import net (get_or net.imports k missing_item) line ≡ true) where
    abbrev import : Priced
    import = get_or net.imports k missing_item

    told_long : length changes ≡ length net.imports
    told_long = ap length h.changes_are ∙ length-map net.imports (change_of net lines)

    said_at : (j : ℕ) (d : Option Change) → j < length net.imports → get_or changes j d ≡ change_of net lines (get_or net.imports j missing_item)
    said_at j d lj = ap (λ (l : List (Option Change)). get_or l j d) h.changes_are ∙ get_or-map (change_of net lines) net.imports j missing_item d lj

    pub of_import : IsOfImport net line
    of_import = (import, Contains-get_or net.imports k missing_item lt, of)

    -- an earlier line of the same import
    pub is_twice : (d : Option Change) → is_some (get_or changes k d) ≡ true → AllPairs ChangeDifferentImports (lines ++ line ∷ []) → ⊥
    is_twice d some pairs = by (change_of net lines import) refl (ap is_some (sym (said_at k d lt)) ∙ some)
      where
        by : (o : Option Change) → change_of net lines import ≡ o → is_some o ≡ true → ⊥
        by None e some = absurd cc
        by (Some change) e some =
            let (l, found) = map_some_is (λ (x : PriceLine). x.change) (find (changes_import net import) lines) change e in
            let p = find_some (changes_import net import) lines l found in
            let (j, lj, at) = p.0 in
            let first = named_is net l.importer l.imported import p.1 in
            let second = named_is net line.importer line.imported import of in
            let old : get_or (lines ++ line ∷ []) j l ≡ l = get_or_append_left lines (line ∷ []) l j lj ∙ at in
            let new : get_or (lines ++ line ∷ []) (length lines) l ≡ line = get_or_push lines line l (length lines) refl in
            let long = length_push lines line in
            let clash = pairs j (length lines) l lj (omega arith) in
            (rw (old, new) at clash) (first.0 ∙ sym second.0) (first.1 ∙ sym second.1)

    module _ (d : Option Change) (none : is_some (get_or changes k d) ≡ false) where
      nothing_said : change_of net lines import ≡ None
      nothing_said = by (change_of net lines import) (ap is_some (sym (said_at k d lt)) ∙ none)
        where
          by : (o : Option Change) → is_some o ≡ false → o ≡ None
          by None e = refl
          by (Some c) e = absurd cc

      apart_all : AllPairs ChangeDifferentImports (lines ++ line ∷ [])
      apart_all = all_pairs_push ChangeDifferentImports lines line h.good.apart (λ j e lj first second.
          let l = get_or lines j e in
          let is_line = named_is net line.importer line.imported import of in
          both_ways (changes_import net import l)
          (find_none (changes_import net import) lines (map_none_is (λ (x : PriceLine). x.change) (find (changes_import net import) lines) nothing_said) l (Contains-get_or lines j e lj))
          (named_true net l.importer l.imported import (first ∙ is_line.0) (second ∙ is_line.1)))

      told_next : slice_set changes k (Some line.change) ≡ map (change_of net (lines ++ line ∷ [])) net.imports
      told_next = ext_get_or None (slice_set changes k (Some line.change)) (map (change_of net (lines ++ line ∷ [])) net.imports)
          (length-set changes k (Some line.change) ∙ told_long ∙ sym (length-map net.imports (change_of net (lines ++ line ∷ []))))
          (λ j lj.
          let long = length-set changes k (Some line.change) in
          let same_long = told_long in
          let lj : j < length net.imports = omega arith in
          sym (get_or-map (change_of net (lines ++ line ∷ [])) net.imports j missing_item None lj ∙ by j lj (cases_Bool (changes_import net (get_or net.imports j missing_item) line))))
        where
          by : (j : ℕ) → j < length net.imports → (changes_import net (get_or net.imports j missing_item) line ≡ true) ⊎ (changes_import net (get_or net.imports j missing_item) line ≡ false)
              → change_of net (lines ++ line ∷ []) (get_or net.imports j missing_item) ≡ get_or (slice_set changes k (Some line.change)) j None
          by j lj (inl is_here) =
              let same : k ≡ j = same_place k j line.importer line.imported lt lj of is_here in
              let same_long = told_long in
              subst (λ (t : ℕ). change_of net (lines ++ line ∷ []) (get_or net.imports t missing_item) ≡ get_or (slice_set changes k (Some line.change)) t None) same
              (said_here lines line import of nothing_said ∙ sym (get_or-set_same changes k (Some line.change) None (omega arith)))
          by j lj (inr other) =
              let differs : j ≢ k = λ e. both_ways (changes_import net (get_or net.imports j missing_item) line) other (subst (λ (t : ℕ). changes_import net (get_or net.imports t missing_item) line ≡ true) (sym e) of) in
              said_other lines line (get_or net.imports j missing_item) other ∙ sym (said_at j None lj) ∙ sym (get_or-set_other changes k j (Some line.change) None differs)

      pub is_told : AreChanges net (lines ++ line ∷ []) (slice_set changes k (Some line.change))
      is_told = record {
        good = record {
          each = All-push IsPriceLine lines line h.good.each good;
          known = All-push (IsOfImport net) lines line h.good.known of_import;
          apart = apart_all;
        };
        changes_are = told_next;
      }

-- a list of clones of none has nothing but none
pub none_cloned : {X : Type 0} (table : List (Option X)) (n : ℕ) (Cloned : Option X → Type 0) → (((y : Option X) → Cloned y → y ≡ None) → table ≡ replicate n None) → ((x : X) → Cloned (Some x) → ⊥) → table ≡ replicate n None
none_cloned {X} table n Cloned all differs = all (λ y. from_clone Cloned differs y)
  where
    from_clone : (Cloned : Option X → Type 0) → ((x : X) → Cloned (Some x) → ⊥) → (y : Option X) → Cloned y → y ≡ None
    from_clone Cloned differs None h = refl
    from_clone Cloned differs (Some x) h = absurd (differs x h)

abbrev none_said : Option Change
none_said = None

-- before the first line no import has a change
pub nothing_told : (net : Network) (changes : List (Option Change)) (n : ℕ) → n ≡ length net.imports → changes ≡ replicate n None → AreChanges net [] changes
nothing_told net changes n many none =
    let long : length (replicate n none_said) ≡ n = length-replicate n none_said in
    record {
      good = record { each = All-nil IsPriceLine; known = All-nil (IsOfImport net); apart = λ i j d below lt. absurd (omega arith) };
      changes_are = none ∙ ext_get_or none_said (replicate n none_said) (map (change_of net []) net.imports) (long ∙ many ∙ sym (length-map net.imports (change_of net [])))
          (λ i lt. get_or-replicate n i none_said none_said (subst (λ (m : ℕ). i < m) long lt)
          ∙ sym (get_or-map (change_of net []) net.imports i missing_item none_said (subst (λ (m : ℕ). i < m) (long ∙ many) lt)));
    }

-- a piece that is a line
pub spelled_one : (line : PriceLine) (piece : List ℕ) → price_line line ≡ piece → SpellPrices (piece ∷ []) (line ∷ [])
spelled_one line piece e = subst (λ (p : List ℕ). SpellPrices (p ∷ []) (line ∷ [])) e (rw (line_written line) refl)
