-- Where the lines of a text stop being good: lines of any form, whose spelling is of one line.
use Rattle.std.proofs.Common.{◌≡◌, ℕ, ◌+◌, ◌<◌, inl, inr, List, [], ◌∷◌, ◌++◌, refl, sym, ◌∙◌, ap, subst, arith, true, Some, take, drop, map, append_assoc}
use Rattle.std.specs.Prelude.{All, filter, slice_get}
use Rattle.std.proofs.lemmas.Bool.{cases_order}
use Rattle.std.proofs.lemmas.List.{append-nil, map-append, map_push, take-append-drop}
use Rattle.std.proofs.lemmas.List.Elements.{All-contains, All-head, All-tail, Contains-push, filter-append}
use Rattle.texts.proofs.FieldCuts.{some_is}
use Rattle.cut_net.specs.NetText.{is_nonempty}
use Rattle.cut_net.proofs.ListFronts.{cons_parts, get_in, rest_at, take_in}

module _ {L : Type 0} (spelled_of : L → List ℕ) where
  pub spell_more : (pieces : List (List ℕ)) (piece : List ℕ) (lines more : List L) → filter is_nonempty pieces ≡ map spelled_of lines → filter is_nonempty (piece ∷ []) ≡ map spelled_of more →
      filter is_nonempty (pieces ++ piece ∷ []) ≡ map spelled_of (lines ++ more)
  spell_more pieces piece lines more h g =
      filter-append is_nonempty pieces (piece ∷ []) ∙ ap (λ (t : List (List ℕ)). t ++ filter is_nonempty (piece ∷ [])) h
      ∙ ap (λ (t : List (List ℕ)). map spelled_of lines ++ t) g ∙ sym (map-append spelled_of lines more)

  pub spell_next : {A : Type 0} (v : A → List ℕ) (items : List A) (item : A) (lines more : List L) → filter is_nonempty (map v items) ≡ map spelled_of lines →
      filter is_nonempty (v item ∷ []) ≡ map spelled_of more → filter is_nonempty (map v (items ++ item ∷ [])) ≡ map spelled_of (lines ++ more)
  spell_next v items item lines more h g = rw (map_push v items item) (spell_more (map v items) (v item) lines more h g)

module _ {L : Type 0} (spelled_of : L → List ℕ) (IsLine : L → Type 0) (once : (l k : L) → IsLine l → IsLine k → spelled_of l ≡ spelled_of k → l ≡ k) where
  -- the pieces that aren't empty are these lines
  abbrev pub Spelled : List (List ℕ) → List L → Type 0
  Spelled pieces lines = filter is_nonempty pieces ≡ map spelled_of lines

  -- if the bytes of two lists of valid lines agree up to the end of the shorter one, its lines are a prefix of the other
  record SameStart (before lines : List L) (rest : List (List ℕ)) : Type 0 where
    pub tail : List L
    pub whole : lines ≡ before ++ tail
    pub spelled : map spelled_of tail ≡ rest

  same_start : (before lines : List L) (rest : List (List ℕ)) → All IsLine before → All IsLine lines → map spelled_of lines ≡ map spelled_of before ++ rest → SameStart before lines rest
  same_start [] lines rest good well e = record { tail = lines; whole = refl; spelled = e }
  same_start (b ∷ before) [] rest good well e = absurd cc
  same_start (b ∷ before) (l ∷ lines) rest good well e =
      let parts = cons_parts (spelled_of l) (spelled_of b) (map spelled_of lines) (map spelled_of before ++ rest) e in
      let same : l ≡ b = once l b (All-head IsLine l lines well) (All-head IsLine b before good) parts.0 in
      let r = same_start before lines rest (All-tail IsLine b before good) (All-tail IsLine l lines well) parts.1 in
      record {
        tail = r.tail;
        whole = ap (λ (x : L). x ∷ lines) same ∙ ap (λ (t : List L). b ∷ t) r.whole;
        spelled = r.spelled;
      }

  -- valid lines with equal pieces are equal
  pub same_lines : (pieces : List (List ℕ)) (lines others : List L) → Spelled pieces lines → Spelled pieces others → All IsLine lines → All IsLine others → lines ≡ others
  same_lines pieces lines others a b good well =
      let e : map spelled_of lines ≡ map spelled_of others ++ [] = sym a ∙ b ∙ sym (append-nil (map spelled_of others)) in
      ended others lines (same_start others lines [] well good e)
    where
      ended : (others lines : List L) → SameStart others lines [] → lines ≡ others
      ended others lines s = s.whole ∙ ap (λ (t : List L). others ++ t) (none s.tail s.spelled) ∙ append-nil others
        where
          none : (tail : List L) → map spelled_of tail ≡ [] → tail ≡ []
          none [] e = refl
          none (t ∷ ts) e = absurd cc

  -- the line that a piece after the first k spells, and those after it
  record NextLine (lines before : List L) (piece : List ℕ) : Type 0 where
    pub line : L
    pub tail : List L
    pub whole : lines ≡ before ++ line ∷ tail
    pub spelled : spelled_of line ≡ piece

  next_line : (pieces : List (List ℕ)) (lines before : List L) (k : ℕ) (piece : List ℕ) → Spelled pieces lines → All IsLine lines → Spelled (take k pieces) before → All IsLine before
      → slice_get pieces k ≡ Some piece → is_nonempty piece ≡ true → NextLine lines before piece
  next_line pieces lines before k piece spelled well prefix good present written =
      let rest = rest_at pieces k piece present in
      let shown : filter is_nonempty (piece ∷ rest.0) ≡ piece ∷ filter is_nonempty rest.0 = rw written refl in
      let cut : filter is_nonempty pieces ≡ filter is_nonempty (take k pieces) ++ filter is_nonempty (drop k pieces) =
      ap (filter is_nonempty) (sym (take-append-drop k pieces)) ∙ filter-append is_nonempty (take k pieces) (drop k pieces) in
      let e : map spelled_of lines ≡ map spelled_of before ++ piece ∷ filter is_nonempty rest.0 =
      sym spelled ∙ cut ∙ ap (λ (t : List (List ℕ)). t ++ filter is_nonempty (drop k pieces)) prefix
      ∙ ap (λ (t : List (List ℕ)). map spelled_of before ++ t) (ap (filter is_nonempty) rest.1 ∙ shown) in
      let s = same_start before lines (piece ∷ filter is_nonempty rest.0) good well e in
      by s.tail s.whole s.spelled
    where
      by : {more : List (List ℕ)} (tail : List L) → lines ≡ before ++ tail → map spelled_of tail ≡ piece ∷ more → NextLine lines before piece
      by [] whole e = absurd cc
      by {more} (line ∷ tail) whole e = record { line = line; tail = tail; whole = whole; spelled = (cons_parts (spelled_of line) piece (map spelled_of tail) more e).0 }

  module _ (Good : List L → Type 0) (each : (lines : List L) → Good lines → All IsLine lines) (prefix : (xs ys : List L) → Good (xs ++ ys) → Good xs) where
    -- the first k pieces are valid lines, and no line that the next piece spells is good after them
    pub record StopsAt (pieces : List (List ℕ)) (k : ℕ) : Type 0 where
      pub before : List L
      pub piece : List ℕ
      pub spelled : Spelled (take k pieces) before
      pub good : Good before
      pub present : slice_get pieces k ≡ Some piece
      pub written : is_nonempty piece ≡ true
      pub bad : (line : L) → spelled_of line ≡ piece → Good (before ++ line ∷ []) → ⊥

    -- pieces of valid lines have no first error
    pub no_stop : (pieces : List (List ℕ)) (lines : List L) (k : ℕ) → Spelled pieces lines → Good lines → StopsAt pieces k → ⊥
    no_stop pieces lines k spelled good s =
        let n = next_line pieces lines s.before k s.piece spelled (each lines good) s.spelled (each s.before s.good) s.present s.written in
        let parts : lines ≡ (s.before ++ n.line ∷ []) ++ n.tail = n.whole ∙ sym (append_assoc s.before (n.line ∷ []) n.tail) in
        s.bad n.line n.spelled (prefix (s.before ++ n.line ∷ []) n.tail (subst Good parts good))

    not_before : (pieces : List (List ℕ)) (j k : ℕ) → StopsAt pieces j → StopsAt pieces k → j < k → ⊥
    not_before pieces j k s t lt =
        no_stop (take k pieces) t.before j t.spelled t.good (record {
          before = s.before;
          piece = s.piece;
          spelled = subst (λ (p : List (List ℕ)). Spelled p s.before) (sym (take_in j k pieces (omega arith))) s.spelled;
          good = s.good;
          present = get_in j k pieces lt ∙ s.present;
          written = s.written;
          bad = s.bad;
        })

    -- two first errors have one index
    pub one_stop : (pieces : List (List ℕ)) (j k : ℕ) → StopsAt pieces j → StopsAt pieces k → j ≡ k
    one_stop pieces j k s t = elim (cases_order j k) [
      | inl e ↦ e
      | inr differs ↦ elim differs [
        | inl lt ↦ absurd (not_before pieces j k s t lt)
        | inr gt ↦ absurd (not_before pieces k j t s gt)
      ]
    ]

    -- the numbers of one index are one
    pub same_number : (pieces : List (List ℕ)) (l m j k : ℕ) → l ≡ j + 1 → m ≡ k + 1 → StopsAt pieces j → StopsAt pieces k → l ≡ m
    same_number pieces l m j k e f s t = let same : j ≡ k = one_stop pieces j k s t in omega arith

    module _ (pieces : List (List ℕ)) (k : ℕ) (before : List L) (spelled : Spelled (take k pieces) before) (good : Good before) where
      same_line : (line other : L) → IsLine other → spelled_of line ≡ spelled_of other → Good (before ++ line ∷ []) → line ≡ other
      same_line line other form e more = once line other (All-contains IsLine (before ++ line ∷ []) line (each (before ++ line ∷ []) more) (Contains-push before line)) form e

      -- a piece that is the bytes of no valid line is at one index
      pub stops_at_piece : (piece : List ℕ) → slice_get pieces k ≡ Some piece → is_nonempty piece ≡ true → ((line : L) → IsLine line → spelled_of line ≡ piece → ⊥) → StopsAt pieces k
      stops_at_piece piece present written wrong = record {
        before = before;
        piece = piece;
        spelled = spelled;
        good = good;
        present = present;
        written = written;
        bad = λ line e more. wrong line (All-contains IsLine (before ++ line ∷ []) line (each (before ++ line ∷ []) more) (Contains-push before line)) e;
      }

      -- a line that makes the lines before it invalid is at one index
      pub stops_at_line : (line : L) → slice_get pieces k ≡ Some (spelled_of line) → is_nonempty (spelled_of line) ≡ true → IsLine line → (Good (before ++ line ∷ []) → ⊥) → StopsAt pieces k
      stops_at_line line present written form bad = record {
        before = before;
        piece = spelled_of line;
        spelled = spelled;
        good = good;
        present = present;
        written = written;
        bad = λ other e more. bad (subst (λ (l : L). Good (before ++ l ∷ [])) (same_line other line form e more) more);
      }

    module _ (pieces : List (List ℕ)) (j k : ℕ) (s : StopsAt pieces j) (t : StopsAt pieces k) (line : L) (present : slice_get pieces k ≡ Some (spelled_of line)) (form : IsLine line) where
      at_first : slice_get pieces j ≡ Some (spelled_of line)
      at_first = subst (λ (n : ℕ). slice_get pieces n ≡ Some (spelled_of line)) (one_stop pieces k j t s) present

      -- a piece that is the bytes of no valid line isn't that of a given line
      pub not_spelled : (piece : List ℕ) → slice_get pieces j ≡ Some piece → ((l : L) → IsLine l → spelled_of l ≡ piece → ⊥) → ⊥
      not_spelled piece first wrong = wrong line form (some_is (spelled_of line) piece (sym at_first ∙ first))

      -- the line is the given one, since their bytes are equal
      pub one_line : (other : L) → slice_get pieces j ≡ Some (spelled_of other) → IsLine other → line ≡ other
      one_line other first well = once line other form well (some_is (spelled_of line) (spelled_of other) (sym at_first ∙ first))
