-- The tables of lines, with one more line.
use Rattle.std.proofs.Common.{◌≡◌, ℕ, ◌+◌, ◌<◌, ◌≤◌, Bool, true, false, eqb, List, [], ◌∷◌, ◌++◌, length, get_or, map, Option, Some, None, Result, Ok, Err, refl, sym, ap, ◌∙◌, arith, inl, inr, subst}
use Rattle.std.specs.Prelude.{option_map, All, AllPairs, Contains, filter, ◌⊎◌}
use Rattle.std.specs.List.{IsDistinct, list_any}
use Rattle.std.specs.Map.{keys_of}
use Rattle.std.specs.Str.{bytes_eq}
use Rattle.std.specs.Cmp.Lexicographic.{nat_list_eq_equiv}
use Rattle.std.proofs.lemmas.Bool.{cases_Bool, cases_lt, false≢true}
use Rattle.std.proofs.lemmas.List.{get_or_append_left, length_push, append-nil, map_push, get_or_push, length-map}
use Rattle.std.proofs.lemmas.List.Elements.{All-nil, All-push, All-head, All-tail, All-weaker, All-contains, Contains-push, Contains-push_cases, Contains-append_left, Contains-get_or, filter-append}
use Rattle.std.proofs.lemmas.List.Quantifiers.{all_pairs_push}
use Rattle.std.proofs.lemmas.List.Sums.{length-filter}
use Rattle.std.proofs.lemmas.Map.Keys.{IsDistinct-push, apart_from_distinct}
use Rattle.std.proofs.lemmas.Map.Made.{is_member-Decides, length-from_same_keys}
use Rattle.std.proofs.lemmas.Slice.Eq.{bytes_eq-Decides}
use Rattle.texts.specs.Fields.{is_name}
use Rattle.cut_net.specs.NetText.{NetLine, Module, Import, net_line, is_import, is_nonempty, HaveDifferentImports, AreMentioning, AreNamesOf, IsNetLine, Mentions}
use Rattle.cut_net.specs.NetReading.{entry_line, with_name, AddsLine, AreTablesOf, ExceedsLimit, HasRepeat, TakesPiece, line_content}
use Rattle.cut_net.specs.declared.lines.Line.{Line}
use Rattle.cut_net.specs.declared.builder.NetBuilder.{NetBuilder}
use Rattle.cut_net.specs.declared.builder.NetLineFault.{NetLineFault}
use Rattle.cut_net.specs.declared.builder.NetLineFault.TheVariants as fault
use Rattle.digraph.proofs.Members.{no_member, in_filter, from_filter, in_map, from_map}

-- the tables of no lines
pub tables_none : AreTablesOf [] [] []
unfolding IsDistinct
tables_none = record {
  each = All-nil IsNetLine;
  apart = λ i j d below lt. absurd (omega arith);
  are_names = record { once = tt; named = λ x. (λ present. no_member x present, λ has. no_member has.0 has.1) };
  few_names = omega arith;
  few_imports = omega arith;
  placed = All-nil _;
  listed = refl;
}

-- ---- names with one more

noted_once : (names : List (List ℕ)) (m : List ℕ) → IsDistinct bytes_eq names → IsDistinct bytes_eq (with_name names m)
noted_once names m h =
    elim (cases_Bool (list_any (bytes_eq m) names)) [
      | inl old ↦ rw old h
      | inr new ↦ rw new (IsDistinct-push nat_list_eq_equiv names m h new)
    ]

noted_in : (names : List (List ℕ)) (m x : List ℕ) → Contains names x ⊎ (m ≡ x) → Contains (with_name names m) x
noted_in names m x h =
    elim (cases_Bool (list_any (bytes_eq m) names)) [
      | inl old ↦ rw old (elim h [ inl present ↦ present | inr same ↦ subst (λ (t : List ℕ). Contains names t) same ((is_member-Decides bytes_eq-Decides names m).0 old) ])
      | inr new ↦ rw new (elim h [ inl present ↦ Contains-append_left names (m ∷ []) x present | inr same ↦ subst (λ (t : List ℕ). Contains (names ++ m ∷ []) t) same (Contains-push names m) ])
    ]

noted_from : (names : List (List ℕ)) (m x : List ℕ) → Contains (with_name names m) x → Contains names x ⊎ (m ≡ x)
noted_from names m x h =
    elim (cases_Bool (list_any (bytes_eq m) names)) [
      | inl old ↦ inl (rw old at h)
      | inr new ↦ Contains-push_cases names m x (rw new at h)
    ]

pub noted_kept : (names : List (List ℕ)) (m : List ℕ) (i : ℕ) → i < length names → get_or (with_name names m) i [] ≡ get_or names i []
noted_kept names m i lt =
    elim (cases_Bool (list_any (bytes_eq m) names)) [
      | inl old ↦ rw old refl
      | inr new ↦ rw new (get_or_append_left names (m ∷ []) [] i lt)
    ]

pub noted_longer : (names : List (List ℕ)) (m : List ℕ) → length names ≤ length (with_name names m)
noted_longer names m =
    elim (cases_Bool (list_any (bytes_eq m) names)) [
      | inl old ↦ rw old (omega arith)
      | inr new ↦ rw new (omega (arith, length_push names m))
    ]

-- ---- the names of the lines

mention_from : (lines : List NetLine) (line : NetLine) (x : List ℕ) → AreMentioning (lines ++ line ∷ []) x → AreMentioning lines x ⊎ Mentions x line
mention_from lines line x (l, present, has) =
    elim (Contains-push_cases lines line l present) [
      | inl before ↦ inl (l, before, has)
      | inr same ↦ inr (subst (λ (t : NetLine). Mentions x t) (sym same) has)
    ]

mention_old : (lines : List NetLine) (line : NetLine) (x : List ℕ) → AreMentioning lines x → AreMentioning (lines ++ line ∷ []) x
mention_old lines line x (l, present, has) = (l, Contains-append_left lines (line ∷ []) l present, has)

mention_new : (lines : List NetLine) (line : NetLine) (x : List ℕ) → Mentions x line → AreMentioning (lines ++ line ∷ []) x
mention_new lines line x has = (line, Contains-push lines line, has)

pub names_module : (lines : List NetLine) (names : List (List ℕ)) (m : List ℕ) → AreNamesOf lines names → AreNamesOf (lines ++ Module m ∷ []) (with_name names m)
names_module lines names m h = record {
  once = noted_once names m h.once;
  named = λ x. (
    λ present. elim (noted_from names m x present) [
      | inl old ↦ mention_old lines (Module m) x ((h.named x).0 old)
      | inr new ↦ mention_new lines (Module m) x new
    ],
    λ has. noted_in names m x (elim (mention_from lines (Module m) x has) [ inl old ↦ inl ((h.named x).1 old) | inr new ↦ inr new ]),
  );
}

pub names_import : (lines : List NetLine) (names : List (List ℕ)) (m n : List ℕ) (w : ℕ) → AreNamesOf lines names → AreNamesOf (lines ++ Import m n w ∷ []) (with_name (with_name names m) n)
names_import lines names m n w h = record {
  once = noted_once (with_name names m) n (noted_once names m h.once);
  named = λ x. (
    λ present. elim (noted_from (with_name names m) n x present) [
      | inl old ↦ elim (noted_from names m x old) [
        | inl older ↦ mention_old lines (Import m n w) x ((h.named x).0 older)
        | inr new ↦ mention_new lines (Import m n w) x (inl new)
      ]
      | inr new ↦ mention_new lines (Import m n w) x (inr new)
    ],
    λ has. elim (mention_from lines (Import m n w) x has) [
      | inl old ↦ noted_in (with_name names m) n x (inl (noted_in names m x (inl ((h.named x).1 old))))
      | inr new ↦ elim new [
        | inl first ↦ noted_in (with_name names m) n x (inl (noted_in names m x (inr first)))
        | inr second ↦ noted_in (with_name names m) n x (inr second)
      ]
    ],
  );
}

-- the number of names of the lines
pub one_count : (lines : List NetLine) (names others : List (List ℕ)) → AreNamesOf lines names → AreNamesOf lines others → length names ≡ length others
one_count lines names others h g =
    let same = λ (q : List ℕ) (x y : List (List ℕ)) (a : AreNamesOf lines x) (b : AreNamesOf lines y) (e : list_any (bytes_eq q) x ≡ true).
    (is_member-Decides bytes_eq-Decides y q).1 ((b.named q).1 ((a.named q).0 ((is_member-Decides bytes_eq-Decides x q).0 e))) in
    length-from_same_keys nat_list_eq_equiv names others h.once g.once (λ q. both _ _ (same q names others h g) (same q others names g h))
  where
    both : (a b : Bool) → (a ≡ true → b ≡ true) → (b ≡ true → a ≡ true) → a ≡ b
    both true b f g = sym (f refl)
    both false true f g = g refl
    both false false f g = refl

-- ---- the lines of imports

-- the indices of the earlier names are unchanged
abbrev pub AreKept : List (List ℕ) → List (List ℕ) → Type 0
AreKept names more = (length names ≤ length more) × ((i : ℕ) → i < length names → get_or more i [] ≡ get_or names i [])

pub kept_one : (names : List (List ℕ)) (m : List ℕ) → AreKept names (with_name names m)
kept_one names m = (noted_longer names m, noted_kept names m)

pub kept_both : (names : List (List ℕ)) (m n : List ℕ) → AreKept names (with_name (with_name names m) n)
kept_both names m n =
    let a = noted_longer names m in
    let b = noted_longer (with_name names m) n in
    (omega arith, λ i lt. noted_kept (with_name names m) n i (omega arith) ∙ noted_kept names m i lt)

abbrev pub IsPlaced : List (List ℕ) → (ℕ × ℕ) × ℕ → Type 0
IsPlaced names entry = (entry.0.0 < length names) × (entry.0.1 < length names)

placed_more : (names more : List (List ℕ)) (es : List ((ℕ × ℕ) × ℕ)) → AreKept names more → All (IsPlaced names) es → All (IsPlaced more) es
placed_more names more es kept h = All-weaker (IsPlaced names) (IsPlaced more) (λ e p. (omega (arith, kept.0, p.0), omega (arith, kept.0, p.1))) es h

lines_kept : (names more : List (List ℕ)) (es : List ((ℕ × ℕ) × ℕ)) → AreKept names more → All (IsPlaced names) es → map (entry_line names) es ≡ map (entry_line more) es
lines_kept names more [] kept h = refl
lines_kept names more (e ∷ es) kept h =
    let p = All-head (IsPlaced names) e es h in
    let first : get_or more e.0.0 [] ≡ get_or names e.0.0 [] = kept.1 e.0.0 p.0 in
    let second : get_or more e.0.1 [] ≡ get_or names e.0.1 [] = kept.1 e.0.1 p.1 in
    let rest = lines_kept names more es kept (All-tail (IsPlaced names) e es h) in
    rw (first, second, rest) refl

pub filter_module : (lines : List NetLine) (m : List ℕ) → filter is_import (lines ++ Module m ∷ []) ≡ filter is_import lines
filter_module lines m = filter-append is_import lines (Module m ∷ []) ∙ append-nil (filter is_import lines)

pub filter_import : (lines : List NetLine) (m n : List ℕ) (w : ℕ) → filter is_import (lines ++ Import m n w ∷ []) ≡ filter is_import lines ++ Import m n w ∷ []
filter_import lines m n w = filter-append is_import lines (Import m n w ∷ [])

pub apart_module : (lines : List NetLine) (m : List ℕ) → AllPairs HaveDifferentImports lines → AllPairs HaveDifferentImports (lines ++ Module m ∷ [])
apart_module lines m h = all_pairs_push HaveDifferentImports lines (Module m) h (λ k d lt. by (get_or lines k d))
  where
    by : (l : NetLine) → HaveDifferentImports l (Module m)
    by (Module _) = tt
    by (Import _ _ _) = tt

said_from : (m n k l : List ℕ) (w x : ℕ) → Import m n w ≡ Import k l x → m ≡ k
said_from m n k l w x e = cc

said_to : (m n k l : List ℕ) (w x : ℕ) → Import m n w ≡ Import k l x → n ≡ l
said_to m n k l w x e = cc

-- an import of an earlier line that occurs again
pub stands_twice : (lines : List NetLine) (m n : List ℕ) (w x : ℕ) → Contains lines (Import m n x) → HasRepeat lines (Import m n w)
stands_twice lines m n w x (k, lt, at) apart =
    let old : get_or (lines ++ Import m n w ∷ []) k (Import m n x) ≡ Import m n x = get_or_append_left lines (Import m n w ∷ []) (Import m n x) k lt ∙ at in
    let new : get_or (lines ++ Import m n w ∷ []) (length lines) (Import m n x) ≡ Import m n w = get_or_push lines (Import m n w) (Import m n x) (length lines) refl in
    let long = length_push lines (Import m n w) in
    let clash = apart k (length lines) (Import m n x) lt (omega arith) in
    (rw (old, new) at clash) refl refl

module _ (lines : List NetLine) (names : List (List ℕ)) (es : List ((ℕ × ℕ) × ℕ)) (h : AreTablesOf lines names es) where
  -- an import of the lines has an entry
  entry_of : (m n : List ℕ) (w : ℕ) → Contains lines (Import m n w) → (e : (ℕ × ℕ) × ℕ) × Contains es e × (entry_line names e ≡ Import m n w)
  entry_of m n w present =
      let listed : Contains (map (entry_line names) es) (Import m n w) = rw (← h.listed) (in_filter is_import lines (Import m n w) refl present) in
      from_map (entry_line names) es (Import m n w) listed

  -- and each entry is of an import of the lines
  line_of_entry : (e : (ℕ × ℕ) × ℕ) → Contains es e → Contains lines (entry_line names e)
  line_of_entry e present =
      let listed : Contains (filter is_import lines) (entry_line names e) = rw h.listed (in_map (entry_line names) es e present) in
      from_filter is_import lines (entry_line names e) listed

  pub tables_module : (m : List ℕ) → is_name m ≡ true → length (with_name names m) ≤ 8192 → AreTablesOf (lines ++ Module m ∷ []) (with_name names m) es
  tables_module m good few = record {
    each = All-push IsNetLine lines (Module m) h.each good;
    apart = apart_module lines m h.apart;
    are_names = names_module lines names m h.are_names;
    few_names = few;
    few_imports = h.few_imports;
    placed = placed_more names (with_name names m) es (kept_one names m) h.placed;
    listed = filter_module lines m ∙ h.listed ∙ lines_kept names (with_name names m) es (kept_one names m) h.placed;
  }

  pub many_module : (m : List ℕ) → is_name m ≡ true → 8192 < length (with_name names m) → ExceedsLimit lines (Module m)
  many_module m good many = record {
    apart = apart_module lines m h.apart;
    many = λ few. let same = one_count (lines ++ Module m ∷ []) (with_name names m) few.names (names_module lines names m h.are_names) few.are_names in
        let little = few.few_names in omega arith;
  }

  module _ (more : List (List ℕ)) (m n : List ℕ) (w i j : ℕ) (kept : AreKept names more) (are_names : AreNamesOf (lines ++ Import m n w ∷ []) more)
      (from : (i < length more) × (get_or more i [] ≡ m)) (to : (j < length more) × (get_or more j [] ≡ n)) where
    same_place : (a b : ℕ) → a < length more → b < length more → get_or more a [] ≡ get_or more b [] → a ≡ b
    same_place a b la lb e =
        elim (cases_order a b) [
          | inl below ↦ absurd (false≢true (sym (apart_from_distinct bytes_eq more a b [] are_names.once below lb) ∙ (bytes_eq-Decides (get_or more a []) (get_or more b [])).1 e))
          | inr other ↦ elim other [
            | inl above ↦ absurd (false≢true (sym (apart_from_distinct bytes_eq more b a [] are_names.once above la) ∙ (bytes_eq-Decides (get_or more b []) (get_or more a [])).1 (sym e)))
            | inr same ↦ same
          ]
        ]
      where
        cases_order : (a b : ℕ) → (a < b) ⊎ ((b < a) ⊎ (a ≡ b))
        cases_order a b =
            elim (cases_lt a b) [
              | inl below ↦ inl below
              | inr other ↦ elim (cases_lt b a) [
                | inl above ↦ inr (inl above)
                | inr same ↦ inr (inr (omega arith))
              ]
            ]

    -- a key without an entry is that of an import without a line
    pub apart_import : (Contains (keys_of es) (i, j) → ⊥) → AllPairs HaveDifferentImports (lines ++ Import m n w ∷ [])
    apart_import absent = all_pairs_push HaveDifferentImports lines (Import m n w) h.apart (λ k d lt. by (get_or lines k d) (Contains-get_or lines k d lt))
      where
        by : (l : NetLine) → Contains lines l → HaveDifferentImports l (Import m n w)
        by (Module _) present = tt
        by (Import k l x) present = λ e1 e2.
            let (e, within, is) = entry_of k l x present in
            let p = All-contains (IsPlaced names) es e h.placed within in
            let le = kept.0 in
            let first : get_or names e.0.0 [] ≡ m = said_from _ _ _ _ _ _ is ∙ e1 in
            let second : get_or names e.0.1 [] ≡ n = said_to _ _ _ _ _ _ is ∙ e2 in
            let x1 : e.0.0 ≡ i = same_place e.0.0 i (omega arith) from.0 (kept.1 e.0.0 p.0 ∙ first ∙ sym from.1) in
            let x2 : e.0.1 ≡ j = same_place e.0.1 j (omega arith) to.0 (kept.1 e.0.1 p.1 ∙ second ∙ sym to.1) in
            let key : e.0 ≡ (i, j) = ap (λ (t : ℕ). (t, e.0.1)) x1 ∙ ap (λ (t : ℕ). (i, t)) x2 in
            absent (subst (λ (t : ℕ × ℕ). Contains (keys_of es) t) key (in_map (λ (p : (ℕ × ℕ) × ℕ). p.0) es e within))

    pub twice_import : Contains (keys_of es) (i, j) → HasRepeat lines (Import m n w)
    twice_import known apart =
        let (found, within, is) = from_map (λ (p : (ℕ × ℕ) × ℕ). p.0) es (i, j) known in
        let x = found.1 in
        let present : Contains es ((i, j), x) = subst (λ (t : ℕ × ℕ). Contains es (t, x)) is within in
        let p = All-contains (IsPlaced names) es ((i, j), x) h.placed present in
        let first : get_or names i [] ≡ m = sym (kept.1 i p.0) ∙ from.1 in
        let second : get_or names j [] ≡ n = sym (kept.1 j p.1) ∙ to.1 in
        let same : Import (get_or names i []) (get_or names j []) x ≡ Import m n x = cc in
        stands_twice lines m n w x (subst (λ (t : NetLine). Contains lines t) same (line_of_entry ((i, j), x) present)) apart

    pub tables_import : (Contains (keys_of es) (i, j) → ⊥) → IsNetLine (Import m n w) → length more ≤ 8192 → length es + 1 ≤ 65536
        → AreTablesOf (lines ++ Import m n w ∷ []) more (es ++ ((i, j), w) ∷ [])
    tables_import absent good few few_imports =
        let last : Import m n w ≡ entry_line more ((i, j), w) = rw (from.1, to.1) refl in
        record {
          each = All-push IsNetLine lines (Import m n w) h.each good;
          apart = apart_import absent;
          are_names = are_names;
          few_names = few;
          few_imports = omega (arith, length_push es ((i, j), w));
          placed = All-push (IsPlaced more) es ((i, j), w) (placed_more names more es kept h.placed) (from.0, to.0);
          listed = filter_import lines m n w ∙ ap (λ (t : List NetLine). t ++ Import m n w ∷ []) (h.listed ∙ lines_kept names more es kept h.placed)
              ∙ ap (λ (t : NetLine). map (entry_line more) es ++ t ∷ []) last ∙ sym (map_push (entry_line more) es ((i, j), w));
        }

    pub many_names : (Contains (keys_of es) (i, j) → ⊥) → 8192 < length more → ExceedsLimit lines (Import m n w)
    many_names absent many = record {
      apart = apart_import absent;
      many = λ few. let same = one_count (lines ++ Import m n w ∷ []) more few.names are_names few.are_names in
          let little = few.few_names in omega arith;
    }

    pub many_imports : (Contains (keys_of es) (i, j) → ⊥) → 65536 < length es + 1 → ExceedsLimit lines (Import m n w)
    many_imports absent many = record {
      apart = apart_import absent;
      many = λ few.
          let a = length-filter is_import (lines ++ Import m n w ∷ []) in
          let b = ap length (filter_import lines m n w) in
          let c = length_push (filter is_import lines) (Import m n w) in
          let d = ap length h.listed in
          let e = length-map es (entry_line names) in
          let little = few.few_imports in omega arith;
    }

-- two names are looked up or added in turn, and their indices are the ends of an import
pub record AreEnds (names middle more : List (List ℕ)) (m n : List ℕ) (i j : ℕ) : Type 0 where
  pub first : middle ≡ with_name names m
  pub first_within : i < length middle
  pub first_place : get_or middle i [] ≡ m
  pub second : more ≡ with_name middle n
  pub second_within : j < length more
  pub second_place : get_or more j [] ≡ n

pub are_ends : (names middle more : List (List ℕ)) (m n : List ℕ) (i j : ℕ) → middle ≡ with_name names m → i < length middle → get_or middle i [] ≡ m →
    more ≡ with_name middle n → j < length more → get_or more j [] ≡ n → AreEnds names middle more m n i j
are_ends names middle more m n i j first in_middle at_first second in_more at_second = record {
  first = first;
  first_within = in_middle;
  first_place = at_first;
  second = second;
  second_within = in_more;
  second_place = at_second;
}

module _ (lines : List NetLine) (names middle more : List (List ℕ)) (es : List ((ℕ × ℕ) × ℕ)) (h : AreTablesOf lines names es) (m n : List ℕ) (w i j : ℕ) (ends : AreEnds names middle more m n i j) where
  both_noted : more ≡ with_name (with_name names m) n
  both_noted = ends.second ∙ ap (λ (t : List (List ℕ)). with_name t n) ends.first

  ends_kept : AreKept names more
  ends_kept = rw both_noted (kept_both names m n)

  ends_names : AreNamesOf (lines ++ Import m n w ∷ []) more
  ends_names = rw both_noted (names_import lines names m n w h.are_names)

  ends_from : (i < length more) × (get_or more i [] ≡ m)
  ends_from =
      let lt = ends.first_within in
      let longer : length middle ≤ length more = rw ends.second (noted_longer middle n) in
      let stays : get_or more i [] ≡ get_or middle i [] = rw ends.second (noted_kept middle n i lt) in
      (omega arith, stays ∙ ends.first_place)

  ends_to : (j < length more) × (get_or more j [] ≡ n)
  ends_to = (ends.second_within, ends.second_place)

  pub adds_twice : Contains (keys_of es) (i, j) → HasRepeat lines (Import m n w)
  adds_twice = twice_import lines names es h more m n w i j ends_kept ends_names ends_from ends_to

  module _ (absent : Contains (keys_of es) (i, j) → ⊥) where
    pub adds_import : IsNetLine (Import m n w) → length more ≤ 8192 → length es + 1 ≤ 65536 → AreTablesOf (lines ++ Import m n w ∷ []) more (es ++ ((i, j), w) ∷ [])
    adds_import = tables_import lines names es h more m n w i j ends_kept ends_names ends_from ends_to absent

    pub adds_name : 8192 < length more → ExceedsLimit lines (Import m n w)
    adds_name = many_names lines names es h more m n w i j ends_kept ends_names ends_from ends_to absent

    pub adds_one : 65536 < length es + 1 → ExceedsLimit lines (Import m n w)
    adds_one = many_imports lines names es h more m n w i j ends_kept ends_names ends_from ends_to absent

-- ---- the result for a piece

pub takes_from_adds : (before : List NetLine) (piece : List ℕ) (line : NetLine) (r : Result (Unit {0}) NetLineFault) (builder : NetBuilder) → is_nonempty piece ≡ true → net_line line ≡ piece → IsNetLine line
    → AddsLine before line r builder → TakesPiece before piece r builder
takes_from_adds before piece line (Ok _) builder written e good h =
    let spelled : filter is_nonempty (piece ∷ []) ≡ net_line line ∷ [] = rw (written, e) refl in
    (line ∷ [], spelled, h)
takes_from_adds before piece line (Err fault.BadLine) builder written e good h = absurd h
takes_from_adds before piece line (Err fault.TwiceImport) builder written e good h = (line, e, good, h)
takes_from_adds before piece line (Err fault.TooMany) builder written e good h = (line, e, good, h)
takes_from_adds before piece line (Err fault.Memory) builder written e good h = tt

pub not_read : (o : Option Line) (r : Option NetLine) → option_map line_content o ≡ r → ((x : Line) → o ≡ Some x → ⊥) → r ≡ None
not_read None r e none = sym e
not_read (Some x) r e none = absurd (none x refl)

pub written_is : (piece : List ℕ) (b : Bool) → b ≡ eqb (length piece) 0 → b ≡ false → is_nonempty piece ≡ true
written_is [] b e h = absurd cc
written_is (_ ∷ _) b e h = refl
