-- A text as its first line and the bytes after it.
use Rattle.std.proofs.Common.{◌≡◌, ℕ, ◌+◌, ◌<◌, true, false, not, eqb, List, [], ◌∷◌, ◌++◌, length, append_assoc, Option, Some, None, Err, refl, sym, ap, subst, ◌∙◌, arith, inl, inr}
use Rattle.std.specs.Prelude.{All, Bool, filter, option_map, slice_get}
use Rattle.std.proofs.Math.Seq.{get_or-append_seam, take-append_seam}
use Rattle.std.proofs.lemmas.Bool.{and_from, and_parts, cases_Bool, not-true}
use Rattle.std.proofs.lemmas.List.{append-nil, length-append, nil_from_length}
use Rattle.std.proofs.lemmas.List.Elements.{All-cons, All-nil, filter-append}
use Rattle.std.proofs.lemmas.Option.{slice_get-get_or}
use Rattle.std.proofs.lemmas.List.Splits.{slice_split_at, slice_split_none}
use Rattle.texts.specs.Fields.{split_at_first, with_first}
use Rattle.texts.proofs.FieldCuts.{cut_takes, some_is, with_some, without}
use Rattle.texts.proofs.FieldNames.{decimal_without, name_without, without-append}
use Rattle.cut_net.specs.NetList.{AddsFirstPiece, IsList, IsRepeat, IsRepeatAt, StartsWithPieces, Repeats}
use Rattle.cut_net.specs.NetText.{NetLine, Module, Import, net_line, is_nonempty, pieces_of, AreValidLines, IsNetLine, IsNetOutcome, Spell, TwiceImport}
use Rattle.cut_net.specs.declared.line_list.LineList.{LineList}

no_end : (bytes : List ℕ) → without 10 bytes ≡ true → All (λ b. eqb b 10 ≡ false) bytes
no_end [] e = All-nil (λ b. eqb b 10 ≡ false)
no_end (b ∷ bytes) e =
    let p = and_parts _ _ e in
    All-cons (λ b. eqb b 10 ≡ false) b bytes (not-true _ p.0) (no_end bytes p.1)

-- a line has no line end
line_without : (l : NetLine) → IsNetLine l → without 10 (net_line l) ≡ true
line_without (Module m) good = name_without 10 m refl good
line_without (Import m n w) good = without-append 10 m _ (name_without 10 m refl good.0) (without-append 10 n _ (name_without 10 n refl good.1) (decimal_without 10 w refl good.2))

written : (l : NetLine) → is_nonempty (net_line l) ≡ true
written (Module m) = refl
written (Import m n w) = refl

-- the bytes before the first line end have no line end
front_without : (bytes : List ℕ) (x : List ℕ × List ℕ) → split_at_first 10 bytes ≡ Some x → without 10 x.0 ≡ true
unfolding split_at_first
front_without [] x e = absurd cc
front_without (b ∷ bytes) x e =
    elim (cases_Bool (eqb b 10)) [
      | inl stops ↦ let at : Some ([], bytes) ≡ Some x = rw stops at e in
          let pair : ([], bytes) ≡ x = some_is _ _ at in
          subst (λ (p : List ℕ × List ℕ). without 10 p.0 ≡ true) pair refl
      | inr goes ↦ let at : option_map (with_first b) (split_at_first 10 bytes) ≡ Some x = rw goes at e in
          let p = with_some b (split_at_first 10 bytes) x at in
          subst (λ (p : List ℕ × List ℕ). without 10 p.0 ≡ true) p.2 (and_from (not (eqb b 10)) _ (rw goes refl) (front_without bytes p.0 p.1))
    ]

-- a text without a line end is one line
none_without : (bytes : List ℕ) → split_at_first 10 bytes ≡ None → without 10 bytes ≡ true
unfolding split_at_first
none_without [] e = refl
none_without (b ∷ bytes) e =
    elim (cases_Bool (eqb b 10)) [
      | inl stops ↦ absurd (some_none _ (rw stops at e))
      | inr goes ↦ and_from (not (eqb b 10)) _ (rw goes refl) (none_without bytes (map_none b (split_at_first 10 bytes) (rw goes at e)))
    ]
  where
    some_none : (x : List ℕ × List ℕ) → Some x ≡ None → ⊥
    some_none x e = absurd cc

    map_none : (b : ℕ) (o : Option (List ℕ × List ℕ)) → option_map (with_first b) o ≡ None → o ≡ None
    map_none b None e = refl
    map_none b (Some x) e = absurd cc

pieces_step : (line rest : List ℕ) → without 10 line ≡ true → pieces_of (line ++ 10 ∷ rest) ≡ line ∷ pieces_of rest
pieces_step line rest e = slice_split_at (λ b. eqb b 10) line 10 rest (no_end line e) refl

-- a prefix of a text, by its pieces
line_pieces : (text rest : List ℕ) (l : NetLine) → IsNetLine l → text ≡ net_line l ++ 10 ∷ rest → pieces_of text ≡ net_line l ∷ pieces_of rest
line_pieces text rest l good is = ap pieces_of is ∙ pieces_step (net_line l) rest (line_without l good)

first_pieces : (text piece rest : List ℕ) → split_at_first 10 text ≡ Some (piece, rest) → pieces_of text ≡ piece ∷ pieces_of rest
first_pieces text piece rest e = ap pieces_of (cut_takes 10 text (piece, rest) e) ∙ pieces_step piece rest (front_without text (piece, rest) e)

last_piece : (text : List ℕ) → split_at_first 10 text ≡ None → pieces_of text ≡ text ∷ []
last_piece text e = slice_split_none (λ b. eqb b 10) text (no_end text (none_without text e))

-- a line that is parsed without searching for its end
pub line_goes_on : (text rest : List ℕ) (before : List NetLine) (l : NetLine) (list : LineList) → IsNetLine l → text ≡ net_line l ++ 10 ∷ rest → IsList (before ++ l ∷ []) list → AddsFirstPiece text rest before list
line_goes_on text rest before l list good is h = (net_line l, l ∷ [], rw (written l) refl, inl (line_pieces text rest l good is), h)

pub line_repeats : (text rest : List ℕ) (before : List NetLine) (l : NetLine) (list : LineList) → IsNetLine l → text ≡ net_line l ++ 10 ∷ rest → IsRepeat before l list → Repeats text before list
line_repeats text rest before l list good is (twice, h) = (l, pieces_of rest, line_pieces text rest l good is, good, (twice, h))

-- a line that is delimited by its end before it is parsed
pub piece_goes_on : (text piece rest : List ℕ) (before more : List NetLine) (list : LineList) → split_at_first 10 text ≡ Some (piece, rest) → Spell (piece ∷ []) more → IsList (before ++ more) list → AddsFirstPiece text rest before list
piece_goes_on text piece rest before more list e first h = (piece, more, first, inl (first_pieces text piece rest e), h)

pub piece_repeats : (text piece rest : List ℕ) (before : List NetLine) (l : NetLine) (list : LineList) → split_at_first 10 text ≡ Some (piece, rest) → net_line l ≡ piece → IsNetLine l → IsRepeat before l list → Repeats text before list
piece_repeats text piece rest before l list e is good (twice, h) = (l, pieces_of rest, first_pieces text piece rest e ∙ ap (λ (p : List ℕ). p ∷ pieces_of rest) (sym is), good, (twice, h))

-- a last line that has no end
pub last_goes_on : (text rest : List ℕ) (before more : List NetLine) (list : LineList) → split_at_first 10 text ≡ None → rest ≡ [] → Spell (text ∷ []) more → IsList (before ++ more) list → AddsFirstPiece text rest before list
last_goes_on text rest before more list e done first h = (text, more, first, inr (last_piece text e, done), h)

pub last_repeats : (text : List ℕ) (before : List NetLine) (l : NetLine) (list : LineList) → split_at_first 10 text ≡ None → net_line l ≡ text → IsNetLine l → IsRepeat before l list → Repeats text before list
last_repeats text before l list e is good (twice, h) = (l, [], last_piece text e ∙ ap (λ (p : List ℕ). p ∷ []) (sym is), good, (twice, h))

-- ---- from piece to piece

-- the piece isn't empty
pub some_are : (bytes : List ℕ) (none : Bool) → none ≡ eqb (length bytes) 0 → none ≡ false → 0 < length bytes
some_are [] none e h = absurd cc
some_are (_ ∷ _) none e h = omega arith

pub leaves_on : (bytes rest after : List ℕ) (prefix : List (List ℕ)) (piece : List ℕ) → StartsWithPieces bytes prefix rest → 0 < length rest → StartsWithPieces rest (piece ∷ []) after → StartsWithPieces bytes (prefix ++ piece ∷ []) after
leaves_on bytes rest after prefix piece (inr (is, done)) some next = let none = ap length done in absurd (omega arith)
leaves_on bytes rest after prefix piece (inl is) some (inl next) = inl (is ∙ ap (λ (t : List (List ℕ)). prefix ++ t) next ∙ sym (append_assoc prefix (piece ∷ []) (pieces_of after)))
leaves_on bytes rest after prefix piece (inl is) some (inr (next, done)) = inr (is ∙ ap (λ (t : List (List ℕ)). prefix ++ t) next, done)

-- no piece follows the last one
pub all_spelled : (bytes rest : List ℕ) (prefix : List (List ℕ)) (lines : List NetLine) → length rest ≡ 0 → StartsWithPieces bytes prefix rest → Spell prefix lines → Spell (pieces_of bytes) lines
all_spelled bytes rest prefix lines done (inr (is, _)) spelled = rw is spelled
all_spelled bytes rest prefix lines done (inl is) spelled =
    let whole : pieces_of bytes ≡ prefix ++ [] ∷ [] = is ∙ ap (λ (r : List ℕ). prefix ++ pieces_of r) (nil_from_length rest done) in
    ap (filter is_nonempty) whole ∙ filter-append is_nonempty prefix ([] ∷ []) ∙ append-nil (filter is_nonempty prefix) ∙ spelled

-- the next piece repeats an import of an earlier line
pub repeat_at : (bytes rest : List ℕ) (prefix : List (List ℕ)) (lines : List NetLine) (list : LineList) (number : ℕ) → number ≡ length prefix + 1 → StartsWithPieces bytes prefix rest → 0 < length rest → Spell prefix lines
    → Repeats rest lines list → IsRepeatAt bytes number list
repeat_at bytes rest prefix lines list number next (inr (is, done)) more spelled r = let none = ap length done in absurd (omega arith)
repeat_at bytes rest prefix lines list number next (inl is) more spelled (line, later, at, good, repeat) =
    let whole : pieces_of bytes ≡ prefix ++ net_line line ∷ later = is ∙ ap (λ (t : List (List ℕ)). prefix ++ t) at in
    let long = length-append prefix (net_line line ∷ later) in
    record {
      place = length prefix;
      next = next;
      before = lines;
      line = line;
      spelled = rw (whole, take-append_seam prefix (net_line line ∷ later)) spelled;
      present = ap (λ (t : List (List ℕ)). slice_get t (length prefix)) whole ∙ slice_get-get_or (prefix ++ net_line line ∷ later) (length prefix) [] (omega arith)
          ∙ ap some (get_or-append_seam prefix (net_line line) later []);
      form = good;
      repeat = repeat;
    }
  where
    some : List ℕ → Option (List ℕ)
    some x = Some x

-- so this is the first error, if the lines before it are valid
pub repeat_said : (bytes : List ℕ) (number : ℕ) (list : LineList) → IsRepeatAt bytes number list → ((lines : List NetLine) → IsList lines list → AreValidLines lines) → IsNetOutcome bytes (Err (TwiceImport number))
repeat_said bytes number list r good = (
  r.place,
  r.next,
  record {
    before = r.before;
    line = r.line;
    prefix = record { spelled = r.spelled; good = good r.before r.repeat.1; present = r.present };
    form = r.form;
    twice = r.repeat.0;
  },
)

pub shorter_by : (text line rest : List ℕ) → text ≡ line ++ 10 ∷ rest → length rest < length text
shorter_by text line rest e = let long = ap length e ∙ length-append line (10 ∷ rest) in omega arith
