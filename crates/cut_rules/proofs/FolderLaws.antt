-- The files of a folder are adjacent.
use Rattle.std.proofs.Common.{◌≡◌, ◌≢◌, ℕ, ◌<◌, ◌≤◌, ◌⊎◌, inl, inr, true, false, List, [], ◌∷◌, ◌++◌, length, get_or, drop, Some, refl, sym, ap, ◌∙◌, subst, arith, Ordering}
use Rattle.std.specs.Prelude.{◌↔◌, slice_get, nat_eq}
use Rattle.std.specs.List.{starts_with}
use Rattle.std.specs.List.Sorted.{IsPartitionPoint, IsPartitionedBy, IsSorted}
use Rattle.std.specs.Ordering.{is_lt, nat_cmp, ordering_index, ordering_then}
use Rattle.std.specs.Cmp.{nat_cmp_is}
use Rattle.std.specs.Cmp.Lexicographic.{slice_cmp}
use Rattle.std.specs.declared.cmp.Ordering.TheVariants.{Less, Equal, Greater}
use Rattle.std.proofs.lemmas.Bool.{cases_lt, or_cases, or_left, or_right}
use Rattle.std.proofs.lemmas.Bool.Decides.{Decides-eqb}
use Rattle.std.proofs.lemmas.Map.Lookups.{exact_unsigned}
use Rattle.std.proofs.lemmas.Cmp.{nat_list_cmp_total, tied_itself}
use Rattle.std.proofs.lemmas.List.Sorted.{searchable_from_sorted}
use Rattle.std.proofs.lemmas.Option.{get_or_from_slice_get}
use Rattle.std.proofs.lemmas.Slice.Eq.{starts_is}
use Rattle.cut_rules.specs.declared.file.File.{File}
use Rattle.cut_rules.specs.Folders.{path_is_before, path_is_before_or_below, path_cmp}
use Rattle.cut_rules.specs.Rules.{folder_prefix, IsBelow}
use Rattle.cut_rules.proofs.Pieces.{get_low}

-- a text that is not above one that begins so comes before the beginning, or begins so too
abbrev ComesOrBegins : List ℕ → List ℕ → Type 0
ComesOrBegins q front = (slice_cmp nat_cmp q front ≡ Less) ⊎ ((more : List ℕ) × (q ≡ front ++ more))

one_step : (x p : ℕ) (q front rest : List ℕ) (o : Ordering) → nat_cmp x p ≡ o → slice_cmp nat_cmp (x ∷ q) (p ∷ (front ++ rest)) ≢ Greater → (slice_cmp nat_cmp q (front ++ rest) ≢ Greater → ComesOrBegins q front) →
    ComesOrBegins (x ∷ q) (p ∷ front)
one_step x p q front rest Less e h later = inl (ap (λ (o : Ordering). ordering_then o (slice_cmp nat_cmp q front)) e)
one_step x p q front rest Equal e h later =
    let same : x ≡ p = exact_unsigned x p e in
    elim (later (λ greater. h (ap (λ (o : Ordering). ordering_then o (slice_cmp nat_cmp q (front ++ rest))) e ∙ greater))) [
      | inl less ↦ inl (ap (λ (o : Ordering). ordering_then o (slice_cmp nat_cmp q front)) e ∙ less)
      | inr found ↦ inr (found.0, ap (λ (n : ℕ). n ∷ q) same ∙ ap (λ (t : List ℕ). p ∷ t) found.1)
    ]
one_step x p q front rest Greater e h later = absurd (h (ap (λ (o : Ordering). ordering_then o (slice_cmp nat_cmp q (front ++ rest))) e))

not_above : (q front rest : List ℕ) → slice_cmp nat_cmp q (front ++ rest) ≢ Greater → ComesOrBegins q front
not_above q [] rest h = inr (q, refl)
not_above [] (p ∷ front) rest h = inl refl
not_above (x ∷ q) (p ∷ front) rest h = one_step x p q front rest (nat_cmp x p) refl h (not_above q front rest)

-- one that begins so does not come before the beginning
not_less : (front rest : List ℕ) → slice_cmp nat_cmp (front ++ rest) front ≡ Less → ⊥
not_less [] [] e = cc
not_less [] (x ∷ rest) e = cc
not_less (p ∷ front) rest e =
    let tied : nat_cmp p p ≡ Equal = sym (nat_cmp_is p p Equal refl) in
    not_less front rest (sym (ap (λ (o : Ordering). ordering_then o (slice_cmp nat_cmp (front ++ rest) front)) tied) ∙ e)

-- ---- the two tests

before_is : (text : List ℕ) (f : File) → path_is_before text f ≡ true → slice_cmp nat_cmp f.path.now text ≡ Less
before_is text f e = by (slice_cmp nat_cmp f.path.now text) refl e
  where
    by : (o : Ordering) → slice_cmp nat_cmp f.path.now text ≡ o → is_lt o ≡ true → slice_cmp nat_cmp f.path.now text ≡ Less
    by Less is e = is
    by Equal is e = cc
    by Greater is e = cc

begins : (text : List ℕ) (f : File) → (starts_with nat_eq f.path.now text ≡ true → f.path.now ≡ text ++ drop (length text) f.path.now) × ((rest : List ℕ) → f.path.now ≡ text ++ rest → starts_with nat_eq f.path.now text ≡ true)
begins text f = starts_is Decides-eqb f.path.now text (starts_with nat_eq f.path.now text) refl

module _ (files : List File) (sorted : IsSorted path_cmp files) (text : List ℕ) where
  rises : (other : List ℕ) (i j : ℕ) (d : File) → i ≤ j → j < length files → ordering_index (slice_cmp nat_cmp (get_or files i d).path.now other) ≤ ordering_index (slice_cmp nat_cmp (get_or files j d).path.now other)
  rises other = searchable_from_sorted nat_list_cmp_total (λ (f : File). f.path.now) files other sorted

  -- those that come before the text stand in front
  pub before_first : IsPartitionedBy (path_is_before text) files
  before_first i j d le lt e =
      let low = rises text i j d le lt in
      let less = before_is text (get_or files j d) e in
      let bound : ordering_index (slice_cmp nat_cmp (get_or files i d).path.now text) ≤ 0 = rw less at low in
      lowest (slice_cmp nat_cmp (get_or files i d).path.now text) bound
    where
      lowest : (o : Ordering) → ordering_index o ≤ 0 → is_lt o ≡ true
      lowest Less l = refl
      lowest Equal l = absurd (omega (arith, l))
      lowest Greater l = absurd (omega (arith, l))

  -- and so do those that come before it or begin with it
  pub not_behind_first : IsPartitionedBy (path_is_before_or_below text) files
  not_behind_first i j d le lt e = elim (or_cases _ _ e) [
    | inl before ↦ or_left _ _ (before_first i j d le lt before)
    | inr starts ↦
        let f = get_or files i d in
        let g = get_or files j d in
        let whole = (begins text g).0 starts in
        let up : ordering_index (slice_cmp nat_cmp f.path.now g.path.now) ≤ 1 = (let low = rises g.path.now i j d le lt in let tied = tied_itself nat_list_cmp_total g.path.now in rw tied at low) in
        elim (not_above f.path.now text (drop (length text) g.path.now) (subst (λ (t : List ℕ). slice_cmp nat_cmp f.path.now t ≢ Greater) whole (low_enough (slice_cmp nat_cmp f.path.now g.path.now) up))) [
          | inl less ↦ or_left _ _ (ap is_lt less)
          | inr found ↦ or_right _ _ ((begins text f).1 found.0 found.1)
        ]
  ]
    where
      low_enough : (o : Ordering) → ordering_index o ≤ 1 → o ≢ Greater
      low_enough Less l e = cc
      low_enough Equal l e = cc
      low_enough Greater l e = absurd (omega (arith, l))

module _ (files : List File) (path text : List ℕ) (is_text : text ≡ folder_prefix path) (from to : ℕ)
    (first : IsPartitionPoint (λ f. path_is_before text f ≡ true) (λ f. path_is_before text f ≡ false) files from)
    (last : IsPartitionPoint (λ f. path_is_before_or_below text f ≡ true) (λ f. path_is_before_or_below text f ≡ false) files to) where
  pub places_are : (k : ℕ) (f : File) → slice_get files k ≡ Some f → ((from ≤ k) × (k < to)) ↔ IsBelow path f.path.now
  places_are k f at =
      let lt : k < length files = get_low files k f at in
      let here : get_or files k f ≡ f = get_or_from_slice_get files k f f at in (
        λ (low, high). elim (or_cases _ _ (subst (λ (g : File). path_is_before_or_below text g ≡ true) here (last.0 k f (omega arith) high))) [
          | inl before ↦ absurd (let e : true ≡ false = sym before ∙ subst (λ (g : File). path_is_before text g ≡ false) here (first.1 k f low lt) in cc)
          | inr starts ↦ (drop (length text) f.path.now, (begins text f).0 starts ∙ ap (λ (t : List ℕ). t ++ drop (length text) f.path.now) is_text)
        ],
        λ (rest, is).
            let whole : f.path.now ≡ text ++ rest = is ∙ ap (λ (t : List ℕ). t ++ rest) (sym is_text) in (
              elim (cases_lt k from) [
                | inl below ↦
                    let less = before_is text f (subst (λ (g : File). path_is_before text g ≡ true) here (first.0 k f (omega arith) below)) in
                    absurd (not_less text rest (subst (λ (t : List ℕ). slice_cmp nat_cmp t text ≡ Less) whole less))
                | inr above ↦ above
              ],
              elim (cases_lt k to) [
                | inl below ↦ below
                | inr above ↦
                    let no : path_is_before_or_below text f ≡ false = subst (λ (g : File). path_is_before_or_below text g ≡ false) here (last.1 k f above lt) in
                    absurd (let e : true ≡ false = sym (or_right (path_is_before text f) _ ((begins text f).1 rest whole)) ∙ no in cc)
              ],
            ),
      )
