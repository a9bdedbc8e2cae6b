-- Parsing a line of a network's text inverts writing it.
use Rattle.std.proofs.Common.{◌≡◌, ◌≢◌, ℕ, ◌<◌, ◌^◌, true, false, List, ◌∷◌, ◌++◌, length, take, drop, get_or, Option, Some, None, refl, sym, ap, ◌∙◌, arith, codes}
use Rattle.std.specs.Str.{bytes_eq}
use Rattle.std.proofs.Math.Seq.{drop-append_seam, take-append_seam}
use Rattle.std.proofs.lemmas.Bool.{false≢true}
use Rattle.std.proofs.lemmas.List.{take-append-drop}
use Rattle.std.specs.Prelude.{option_map, option_and_then}
use Rattle.std.specs.Option.{option_map_or}
use Rattle.std.specs.Fmt.{decimal}
use Rattle.std.proofs.lemmas.Option.{cond_some, option_and_then_some}
use Rattle.std.proofs.lemmas.Slice.Eq.{bytes_eq-Decides}
use Rattle.texts.specs.Fields.{split_at_first, named, number_of, is_name}
use Rattle.cut_net.specs.NetText.{NetLine, Module, Import, net_line, IsNetLine}
use Rattle.cut_net.specs.NetReading.{after_word, import_of, module_of, line_of_piece}
use Rattle.texts.proofs.FieldCuts.{cut_takes, cut_again, without}
use Rattle.texts.proofs.FieldNames.{named_takes, named_again, name_without}
use Rattle.texts.proofs.FieldNumbers.{number_takes, number_again}

pub word_takes : (word piece fields : List ℕ) → after_word word piece ≡ Some fields → piece ≡ word ++ 32 ∷ fields
unfolding after_word
word_takes word piece fields e =
    option_and_then_some _ (split_at_first 32 piece) fields e (λ parts h e.
    let p = cond_some _ _ _ e in
    let same : parts.0 ≡ word = (bytes_eq-Decides parts.0 word).0 p.0 in
    rw (← same, ← p.1) (cut_takes 32 piece parts h))

pub word_again : (word fields : List ℕ) → without 32 word ≡ true → after_word word (word ++ 32 ∷ fields) ≡ Some fields
unfolding after_word
word_again word fields e = rw (cut_again 32 word fields e, (bytes_eq-Decides word word).1 refl) refl

none_unless : {A : Type 0} (o : Option A) → ((x : A) → o ≡ Some x → ⊥) → o ≡ None
none_unless None h = refl
none_unless (Some x) h = absurd (h x refl)

module _ (word piece : List ℕ) where
  prefix : (fields : List ℕ) → after_word word piece ≡ Some fields → (take (length word) piece ≡ word) × (drop (length word) piece ≡ 32 ∷ fields)
  prefix fields is =
      let whole = word_takes word piece fields is in
      (ap (take (length word)) whole ∙ take-append_seam word (32 ∷ fields), ap (drop (length word)) whole ∙ drop-append_seam word (32 ∷ fields))

  -- the piece begins otherwise
  pub word_missing : bytes_eq (take (length word) piece) word ≡ false → after_word word piece ≡ None
  word_missing differs = none_unless (after_word word piece) (λ fields is. false≢true (sym differs ∙ (bytes_eq-Decides (take (length word) piece) word).1 (prefix fields is).0))

  -- the piece ends after the keyword
  pub word_alone : length (drop (length word) piece) ≡ 0 → after_word word piece ≡ None
  word_alone none = none_unless (after_word word piece) (λ fields is. let len = ap length (prefix fields is).1 in omega arith)

  -- another byte than a space follows the keyword
  pub word_joined : (b : ℕ) (more : List ℕ) → drop (length word) piece ≡ b ∷ more → b ≢ 32 → after_word word piece ≡ None
  word_joined b more after differs = none_unless (after_word word piece) (λ fields is. differs (ap (λ (v : List ℕ). get_or v 0 0) (sym after ∙ (prefix fields is).1)))

  pub word_there : (b : ℕ) (fields : List ℕ) → without 32 word ≡ true → bytes_eq (take (length word) piece) word ≡ true → drop (length word) piece ≡ b ∷ fields → b ≡ 32 → after_word word piece ≡ Some fields
  word_there b fields no_blank same after blank =
      let begins : take (length word) piece ≡ word = (bytes_eq-Decides (take (length word) piece) word).0 same in
      let ends : drop (length word) piece ≡ 32 ∷ fields = after ∙ ap (λ n. n ∷ fields) blank in
      let whole : piece ≡ word ++ 32 ∷ fields = sym (take-append-drop (length word) piece) ∙ ap (λ v. v ++ drop (length word) piece) begins ∙ ap (λ v. word ++ v) ends in
      ap (after_word word) whole ∙ word_again word fields no_blank

pub map_some : {A B P : Type 0} (f : A → B) (o : Option A) (y : B) → option_map f o ≡ Some y → ((x : A) → o ≡ Some x → f x ≡ y → P) → P
map_some f (Some x) y e go = go x refl cc
map_some f None y e go = absurd cc

abbrev after_module : List ℕ → List ℕ
after_module fields = codes "module" ++ 32 ∷ fields

abbrev after_import : List ℕ → List ℕ
after_import fields = codes "import" ++ 32 ∷ fields

module_takes : (fields : List ℕ) (l : NetLine) → module_of fields ≡ Some l → (after_module fields ≡ net_line l) × IsNetLine l
module_takes fields l e =
    map_some Module (named fields) l e (λ m h same.
    let p = named_takes fields m h in
    rw (← same, ← p.0) (refl, rw p.0 p.1))

import_takes : (fields : List ℕ) (l : NetLine) → import_of fields ≡ Some l → (after_import fields ≡ net_line l) × IsNetLine l
unfolding import_of
import_takes fields l e =
    option_and_then_some _ (split_at_first 32 fields) l e (λ parts h1 e.
    option_and_then_some _ (split_at_first 32 parts.1) l e (λ others h2 e.
    option_and_then_some _ (named parts.0) l e (λ m h3 e.
    option_and_then_some _ (named others.0) l e (λ n h4 e.
    map_some _ (number_of others.1) l e (λ w h5 same.
    let p = named_takes parts.0 m h3 in
    let q = named_takes others.0 n h4 in
    let r = number_takes others.1 w h5 in
    let rest : parts.1 ≡ n ++ 32 ∷ decimal w = cut_takes 32 parts.1 others h2 ∙ rw (q.0, r.0) refl in
    let whole : fields ≡ m ++ 32 ∷ (n ++ 32 ∷ decimal w) = cut_takes 32 fields parts h1 ∙ rw (p.0, rest) refl in
    rw (← same, whole) (refl, (p.1, q.1, r.1)))))))

-- the bytes of a parsed line are those of its content
pub line_takes : (piece : List ℕ) (l : NetLine) → line_of_piece piece ≡ Some l → (piece ≡ net_line l) × IsNetLine l
unfolding line_of_piece
line_takes piece l e = by (after_word (codes "module") piece) refl e
  where
    by : (o : Option (List ℕ)) → after_word (codes "module") piece ≡ o → option_map_or module_of o (option_and_then import_of (after_word (codes "import") piece)) ≡ Some l → (piece ≡ net_line l) × IsNetLine l
    by (Some fields) h e =
        let p = module_takes fields l e in
        (word_takes (codes "module") piece fields h ∙ p.0, p.1)
    by None h e =
        option_and_then_some import_of (after_word (codes "import") piece) l e (λ fields g e.
        let p = import_takes fields l e in
        (word_takes (codes "import") piece fields g ∙ p.0, p.1))

other_word : (fields : List ℕ) → after_word (codes "module") (after_import fields) ≡ None
unfolding after_word
other_word fields = rw (cut_again 32 (codes "import") fields refl) refl

import_again : (m n : List ℕ) (w : ℕ) → is_name m ≡ true → is_name n ≡ true → w < 2 ^ 64 → import_of (m ++ 32 ∷ (n ++ 32 ∷ decimal w)) ≡ Some (Import m n w)
unfolding import_of
import_again m n w p q lt =
    let a = cut_again 32 m (n ++ 32 ∷ decimal w) (name_without 32 m refl p) in
    let b = cut_again 32 n (decimal w) (name_without 32 n refl q) in
    rw (a, b, named_again m p, named_again n q, number_again w lt) refl

-- the bytes of a valid line are parsed as its content
pub line_again : (l : NetLine) → IsNetLine l → line_of_piece (net_line l) ≡ Some l
unfolding line_of_piece
line_again (Module m) h = rw (word_again (codes "module") m refl, named_again m h) refl
line_again (Import m n w) h =
    let rest = m ++ 32 ∷ (n ++ 32 ∷ decimal w) in
    rw (other_word rest, word_again (codes "import") rest refl) (import_again m n w h.0 h.1 h.2)

-- two valid lines with equal bytes are equal
pub line_once : (l k : NetLine) → IsNetLine l → IsNetLine k → net_line l ≡ net_line k → l ≡ k
line_once l k good well e =
    let a = line_again l good in
    let b = line_again k well in
    let c : line_of_piece (net_line l) ≡ line_of_piece (net_line k) = ap line_of_piece e in
    cc

-- bytes that aren't parsed are the bytes of no valid line
pub no_line : (piece : List ℕ) → line_of_piece piece ≡ None → (l : NetLine) → IsNetLine l → net_line l ≢ piece
no_line piece none l good e =
    let a : Some l ≡ None = sym (line_again l good) ∙ ap line_of_piece e ∙ none in
    absurd cc
