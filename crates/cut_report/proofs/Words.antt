-- Words with a blank between each two, and the words of a text.
use Rattle.std.proofs.Common.{◌≡◌, ℕ, ◌+◌, ◌<◌, true, false, eqb, ne_eqb, lit<, List, [], ◌∷◌, ◌++◌, length, map, take, refl, sym, ap, subst, ◌∙◌, append_assoc, arith, codes, get_or, inl, inr, Result, Ok, Err}
use Rattle.std.specs.Prelude.{All, OnOk}
use Rattle.std.specs.List.{list_all}
use Rattle.std.specs.Str.{IsUtf8}
use Rattle.std.proofs.lemmas.Bool.{and_parts, cases_eq, not-true}
use Rattle.std.proofs.lemmas.List.{length-map, length-take-le, map_push}
use Rattle.std.proofs.lemmas.List.{take_more}
use Rattle.std.proofs.lemmas.List.Elements.{All-cons, All-nil}
use Rattle.std.proofs.lemmas.List.Splits.{join_with_byte-slice_split, length-slice_split, slice_split_at, slice_split_none}
use Rattle.std.proofs.lemmas.Str.{IsUtf8-append, IsUtf8-from_ascii}
use Rattle.std.proofs.lemmas.Str.Ascii.{IsAscii-cons, IsAscii-nil}
use Rattle.texts.specs.Fields.{is_name, line_of}
use Rattle.texts.proofs.FieldCuts.{without}
use Rattle.texts.proofs.FieldNames.{name_is_text, name_without, without-append}
use Rattle.cut_report.specs.Lines.{joined_with, words_of}

-- the words of a text with a blank between each two are the text
pub joined : (bytes : List ℕ) → line_of (words_of bytes) ≡ bytes
joined bytes = join_with_byte-slice_split 32 bytes

pub some_word : (bytes : List ℕ) → 0 < length (words_of bytes)
some_word bytes = let n = length-slice_split (λ b. eqb b 32) bytes in omega arith

-- a word before others
pub with_word : (word : List ℕ) (words : List (List ℕ)) → 0 < length words → line_of (word ∷ words) ≡ word ++ 32 ∷ line_of words
with_word word [] lt = absurd (omega arith)
with_word word (w ∷ words) lt = refl

-- a word after others
pub word_more : (words : List (List ℕ)) (word : List ℕ) → 0 < length words → line_of (words ++ word ∷ []) ≡ line_of words ++ 32 ∷ word
word_more [] word lt = absurd (omega arith)
word_more (w ∷ []) word lt = refl
word_more (w ∷ v ∷ words) word lt =
    let more = word_more (v ∷ words) word (omega arith) in
    ap (λ (t : List ℕ). w ++ 32 ∷ t) more ∙ sym (append_assoc w (32 ∷ line_of (v ∷ words)) (32 ∷ word))

-- no byte of a text without this one is it
pub none_is : (stop : ℕ) (bytes : List ℕ) → without stop bytes ≡ true → All (λ b. eqb b stop ≡ false) bytes
none_is stop [] e = All-nil (λ b. eqb b stop ≡ false)
none_is stop (b ∷ bytes) e =
    let p = and_parts _ _ e in
    All-cons (λ b. eqb b stop ≡ false) b bytes (not-true _ p.0) (none_is stop bytes p.1)

-- names with a blank between each two are the words of the text
pub words_again : (names : List (List ℕ)) → 0 < length names → list_all is_name names ≡ true → words_of (line_of names) ≡ names
words_again [] lt e = absurd (omega arith)
words_again (n ∷ []) lt e =
    let p = and_parts _ _ e in
    slice_split_none (λ b. eqb b 32) n (none_is 32 n (name_without 32 n refl p.0))
words_again (n ∷ m ∷ names) lt e =
    let p = and_parts _ _ e in
    slice_split_at (λ b. eqb b 32) n 32 (line_of (m ∷ names)) (none_is 32 n (name_without 32 n refl p.0)) refl ∙ ap (λ (t : List (List ℕ)). n ∷ t) (words_again (m ∷ names) (omega arith) p.1)

-- names have no LF
pub names_without : (names : List (List ℕ)) → list_all is_name names ≡ true → without 10 (line_of names) ≡ true
names_without [] e = refl
names_without (n ∷ []) e = let p = and_parts _ _ e in name_without 10 n refl p.0
names_without (n ∷ m ∷ names) e =
    let p = and_parts _ _ e in
    without-append 10 n (32 ∷ line_of (m ∷ names)) (name_without 10 n refl p.0) (names_without (m ∷ names) p.1)

-- names are text
names_are_text : (names : List (List ℕ)) → list_all is_name names ≡ true → IsUtf8 (line_of names)
names_are_text [] e = IsUtf8-from_ascii [] IsAscii-nil
names_are_text (n ∷ []) e = let p = and_parts _ _ e in name_is_text n p.0
names_are_text (n ∷ m ∷ names) e =
    let p = and_parts _ _ e in
    let blank : IsUtf8 (32 ∷ []) = IsUtf8-from_ascii (32 ∷ []) (IsAscii-cons 32 [] (lit< tt) IsAscii-nil) in
    IsUtf8-append n (32 ∷ line_of (m ∷ names)) (name_is_text n p.0) (IsUtf8-append (32 ∷ []) (line_of (m ∷ names)) blank (names_are_text (m ∷ names) p.1))

pub words_are_text : (bytes : List ℕ) → list_all is_name (words_of bytes) ≡ true → IsUtf8 bytes
words_are_text bytes e = subst IsUtf8 (joined bytes) (names_are_text (words_of bytes) e)

-- the words of one more module
pub words_next : (name : ℕ → List ℕ) (modules : List ℕ) (k d : ℕ) → k < length modules → line_of (map name (take (k + 1) modules)) ≡ joined_with (line_of (map name (take k modules))) k (name (get_or modules k d))
words_next name modules k d lt =
    let more : map name (take (k + 1) modules) ≡ map name (take k modules) ++ name (get_or modules k d) ∷ [] = ap (map name) (take_more modules k d lt) ∙ map_push name (take k modules) (get_or modules k d) in
    elim (cases_eq k 0) [
      | inl e ↦ rw (more, e) refl
      | inr ne ↦
          let long = length-map (take k modules) name in
          let prefix = length-take-le k modules (omega arith) in
          rw (more, word_more (map name (take k modules)) (name (get_or modules k d)) (omega arith), ne_eqb k 0 ne) refl
    ]

-- the line of a path, by the text of its names
pub chain_line : (names : List (List ℕ)) (text : List ℕ) → 0 < length names → text ≡ line_of names → line_of (codes "blocked" ∷ words_of text) ≡ line_of (codes "blocked" ∷ names)
chain_line names text lt e = with_word (codes "blocked") (words_of text) (some_word text) ∙ rw (joined text, e) (sym (with_word (codes "blocked") names lt))

pub on_ok : {A E : Type 0} (P Q : Type 0) (r : Result A E) → (P → Q) → OnOk r P → OnOk r Q
on_ok P Q (Ok v) more h = more h
on_ok P Q (Err e) more h = tt
