-- Parsing a line of a report inverts writing it.
use Rattle.std.proofs.Common.{◌≡◌, ℕ, ◌<◌, ◌^◌, ◌&&◌, Bool, true, false, cond, List, ◌∷◌, ◌++◌, Option, Some, None, refl, sym, ap, subst, ◌∙◌, codes, ltb}
use Rattle.std.specs.Fmt.{decimal}
use Rattle.std.specs.List.{list_all}
use Rattle.std.specs.Str.{bytes_eq}
use Rattle.std.proofs.lemmas.Bool.{and_parts, ltb-true, lt-ltb}
use Rattle.std.proofs.lemmas.Slice.Eq.{bytes_eq-Decides}
use Rattle.texts.specs.Fields.{split_at_first, named, number_of, is_name, line_of}
use Rattle.cut_report.specs.ReportLine.{ReportLine, Ends, Weighs, Removes, Flows, Blocks, Last, report_line}
use Rattle.cut_report.specs.ReportLines.{IsWellFormed}
use Rattle.texts.proofs.FieldCuts.{cut_takes, cut_again, cut_none, without, some_is}
use Rattle.texts.proofs.FieldNames.{named_takes, named_again, name_without, decimal_without, without-append}
use Rattle.texts.proofs.FieldNumbers.{number_takes, number_again}
use Rattle.cut_report.specs.Lines.{◌>>=◌, amount_of, blocks_of, ends_of, import_under, line_of_text, line_under, words_of, IsFirstLine}
use Rattle.cut_report.proofs.Words.{joined, names_without, some_word, with_word, words_again}

-- the value of a step that gave one
bind_some : {A B P : Type 0} (o : Option A) (f : A → Option B) (y : B) → (o >>= f) ≡ Some y → ((x : A) → o ≡ Some x → f x ≡ Some y → P) → P
bind_some (Some x) f y h go = go x refl h
bind_some None f y h go = absurd cc

-- which side of a test gave it
by_test : {A P : Type 0} (b : Bool) (o p : Option A) (y : A) → cond b o p ≡ Some y → (b ≡ true → o ≡ Some y → P) → (b ≡ false → p ≡ Some y → P) → P
by_test true o p y h yes_case no_case = yes_case refl h
by_test false o p y h yes_case no_case = no_case refl h

-- the text is the line, and has its form
pub record IsSpelling (text : List ℕ) (line : ReportLine) : Type 0 where
  pub form : IsWellFormed line
  pub spelled : report_line line ≡ text

record AreEnds (fields : List ℕ) (x : List ℕ × List ℕ) : Type 0 where
  whole : fields ≡ x.0 ++ 32 ∷ x.1
  from : is_name x.0 ≡ true
  to : is_name x.1 ≡ true

record IsAmount (fields : List ℕ) (x : List ℕ × List ℕ × ℕ) : Type 0 where
  whole : fields ≡ x.0 ++ 32 ∷ (x.1 ++ 32 ∷ decimal x.2)
  from : is_name x.0 ≡ true
  to : is_name x.1 ≡ true
  fits : x.2 < 2 ^ 64

ends_take : (fields : List ℕ) (x : List ℕ × List ℕ) → ends_of fields ≡ Some x → AreEnds fields x
unfolding ends_of
ends_take fields x e =
    bind_some (split_at_first 32 fields) _ x e (λ parts h0 e.
    bind_some (named parts.0) _ x e (λ from h1 e.
    bind_some (named parts.1) _ x e (λ to h2 e.
    let a = named_takes parts.0 from h1 in
    let b = named_takes parts.1 to h2 in
    subst (λ (y : List ℕ × List ℕ). AreEnds fields y) (some_is _ x e)
    (record { whole = rw (← a.0, ← b.0) (cut_takes 32 fields parts h0); from = a.1; to = b.1 }))))

ends_again : (m n : List ℕ) → is_name m ≡ true → is_name n ≡ true → ends_of (m ++ 32 ∷ n) ≡ Some (m, n)
unfolding ends_of
ends_again m n p q = rw (cut_again 32 m n (name_without 32 m refl p), named_again m p, named_again n q) refl

amount_takes : (fields : List ℕ) (x : List ℕ × List ℕ × ℕ) → amount_of fields ≡ Some x → IsAmount fields x
unfolding amount_of
amount_takes fields x e =
    bind_some (split_at_first 32 fields) _ x e (λ first h0 e.
    bind_some (split_at_first 32 first.1) _ x e (λ second h1 e.
    bind_some (named first.0) _ x e (λ from h2 e.
    bind_some (named second.0) _ x e (λ to h3 e.
    bind_some (number_of second.1) _ x e (λ amount h4 e.
    let a = named_takes first.0 from h2 in
    let b = named_takes second.0 to h3 in
    let n = number_takes second.1 amount h4 in
    let whole : fields ≡ from ++ 32 ∷ (to ++ 32 ∷ decimal amount) = rw (← a.0, ← b.0, ← n.0, ← cut_takes 32 first.1 second h1) (cut_takes 32 fields first h0) in
    subst (λ (y : List ℕ × List ℕ × ℕ). IsAmount fields y) (some_is _ x e) (record { whole = whole; from = a.1; to = b.1; fits = n.1 }))))))

amount_again : (m n : List ℕ) (k : ℕ) → is_name m ≡ true → is_name n ≡ true → k < 2 ^ 64 → amount_of (m ++ 32 ∷ (n ++ 32 ∷ decimal k)) ≡ Some (m, n, k)
unfolding amount_of
amount_again m n k p q lt =
    let first = cut_again 32 m (n ++ 32 ∷ decimal k) (name_without 32 m refl p) in
    let second = cut_again 32 n (decimal k) (name_without 32 n refl q) in
    rw (first, second, named_again m p, named_again n q, number_again k lt) refl

same_word : (word other : List ℕ) → bytes_eq word other ≡ true → word ≡ other
same_word word other e = (bytes_eq-Decides word other).0 e

import_takes : (word fields : List ℕ) (x : List ℕ × List ℕ × ℕ) (line : ReportLine) → IsAmount fields x → import_under word x ≡ Some line → IsSpelling (word ++ 32 ∷ fields) line
import_takes word fields x line h e =
    by_test (bytes_eq word (codes "remove")) _ _ line e
    (λ w e. subst (λ (l : ReportLine). IsSpelling (word ++ 32 ∷ fields) l) (some_is _ line e)
    (record { form = (h.from, h.to, h.fits); spelled = rw (same_word word (codes "remove") w, h.whole) refl }))
    (λ _ e. by_test (bytes_eq word (codes "flow") && ltb 0 x.2) _ _ line e
    (λ w e. let p = and_parts _ _ w in
    subst (λ (l : ReportLine). IsSpelling (word ++ 32 ∷ fields) l) (some_is _ line e)
    (record { form = (h.from, h.to, h.fits, ltb-true _ _ p.1); spelled = rw (same_word word (codes "flow") p.0, h.whole) refl }))
    (λ _ e. absurd cc))

blocks_take : (word fields : List ℕ) (line : ReportLine) → word ≡ codes "blocked" → blocks_of fields ≡ Some line → IsSpelling (word ++ 32 ∷ fields) line
unfolding blocks_of
blocks_take word fields line w e =
    by_test (list_all is_name (words_of fields)) _ _ line e
    (λ t e. subst (λ (l : ReportLine). IsSpelling (word ++ 32 ∷ fields) l) (some_is _ line e)
    (record { form = (some_word fields, t); spelled = with_word (codes "blocked") (words_of fields) (some_word fields) ∙ rw (joined fields, w) refl }))
    (λ _ e. absurd cc)

under_takes : (word fields : List ℕ) (line : ReportLine) → line_under word fields ≡ Some line → IsSpelling (word ++ 32 ∷ fields) line
unfolding line_under
under_takes word fields line e =
    by_test (bytes_eq word (codes "cut")) _ _ line e
    (λ w e. bind_some (ends_of fields) _ line e (λ x h e.
    let t = ends_take fields x h in
    subst (λ (l : ReportLine). IsSpelling (word ++ 32 ∷ fields) l) (some_is _ line e)
    (record { form = (t.from, t.to); spelled = rw (same_word word (codes "cut") w, t.whole) refl })))
    (λ _ e. by_test (bytes_eq word (codes "weight")) _ _ line e
    (λ w e. bind_some (number_of fields) _ line e (λ x h e.
    let t = number_takes fields x h in
    subst (λ (l : ReportLine). IsSpelling (word ++ 32 ∷ fields) l) (some_is _ line e)
    (record { form = t.1; spelled = rw (same_word word (codes "weight") w, t.0) refl })))
    (λ _ e. by_test (bytes_eq word (codes "blocked")) _ _ line e
    (λ w e. blocks_take word fields line (same_word word (codes "blocked") w) e)
    (λ _ e. bind_some (amount_of fields) _ line e (λ x h e. import_takes word fields x line (amount_takes fields x h) e))))

pub line_takes : (text : List ℕ) (line : ReportLine) → line_of_text text ≡ Some line → IsSpelling text line
unfolding line_of_text
line_takes text line e =
    by_test (bytes_eq text (codes "end")) _ _ line e
    (λ w e. subst (λ (l : ReportLine). IsSpelling text l) (some_is _ line e) (record { form = tt; spelled = sym (same_word text (codes "end") w) }))
    (λ _ e. bind_some (split_at_first 32 text) _ line e (λ parts h e.
    rw (cut_takes 32 text parts h) (under_takes parts.0 parts.1 line e)))

-- a text with a space in it isn't the last line
parted : (word fields : List ℕ) → without 32 word ≡ true → line_of_text (word ++ 32 ∷ fields) ≡ line_under word fields
unfolding line_of_text
parted word fields h = go (bytes_eq (word ++ 32 ∷ fields) (codes "end")) refl
  where
    cuts : split_at_first 32 (word ++ 32 ∷ fields) ≡ Some (word, fields)
    cuts = cut_again 32 word fields h

    go : (b : Bool) → bytes_eq (word ++ 32 ∷ fields) (codes "end") ≡ b → cond b (Some Last) (split_at_first 32 (word ++ 32 ∷ fields) >>= λ parts. line_under parts.0 parts.1) ≡ line_under word fields
    go true e =
        let same = same_word (word ++ 32 ∷ fields) (codes "end") e in
        let none : split_at_first 32 (word ++ 32 ∷ fields) ≡ None = rw same (cut_none 32 (codes "end") refl) in
        absurd (let bad : Some (word, fields) ≡ None = rw cuts at none in cc)
    go false e = rw cuts refl

pub line_again : (line : ReportLine) → IsWellFormed line → line_of_text (report_line line) ≡ Some line
unfolding line_of_text line_under blocks_of
line_again (Ends m n) h = parted (codes "cut") (m ++ 32 ∷ n) refl ∙ rw (ends_again m n h.0 h.1) refl
line_again (Weighs w) h = parted (codes "weight") (decimal w) refl ∙ rw (number_again w h) refl
line_again (Removes m n w) h = parted (codes "remove") (m ++ 32 ∷ (n ++ 32 ∷ decimal w)) refl ∙ rw (amount_again m n w h.0 h.1 h.2) refl
line_again (Flows m n f) h = parted (codes "flow") (m ++ 32 ∷ (n ++ 32 ∷ decimal f)) refl ∙ rw (amount_again m n f h.0 h.1 h.2, lt-ltb 0 f h.3) refl
line_again (Blocks names) h =
    ap line_of_text (with_word (codes "blocked") names h.0) ∙ parted (codes "blocked") (line_of names) refl ∙ rw (words_again names h.0 h.1, h.1) refl
line_again Last h = refl

-- a line has no LF
pub line_without : (line : ReportLine) → IsWellFormed line → without 10 (report_line line) ≡ true
line_without (Ends m n) h =
    without-append 10 (codes "cut") (32 ∷ (m ++ 32 ∷ n)) refl (without-append 10 m (32 ∷ n) (name_without 10 m refl h.0) (name_without 10 n refl h.1))
line_without (Weighs w) h = without-append 10 (codes "weight") (32 ∷ decimal w) refl (decimal_without 10 w refl h)
line_without (Removes m n w) h =
    without-append 10 (codes "remove") (32 ∷ (m ++ 32 ∷ (n ++ 32 ∷ decimal w))) refl (without-append 10 m (32 ∷ (n ++ 32 ∷ decimal w)) (name_without 10 m refl h.0)
    (without-append 10 n (32 ∷ decimal w) (name_without 10 n refl h.1) (decimal_without 10 w refl h.2)))
line_without (Flows m n f) h =
    without-append 10 (codes "flow") (32 ∷ (m ++ 32 ∷ (n ++ 32 ∷ decimal f))) refl (without-append 10 m (32 ∷ (n ++ 32 ∷ decimal f)) (name_without 10 m refl h.0)
    (without-append 10 n (32 ∷ decimal f) (name_without 10 n refl h.1) (decimal_without 10 f refl h.2)))
line_without (Blocks names) h =
    rw (with_word (codes "blocked") names h.0) (without-append 10 (codes "blocked") (32 ∷ line_of names) refl (names_without names h.1))
line_without Last h = refl

-- one text, one line
pub line_once : (line other : ReportLine) → IsWellFormed line → IsWellFormed other → report_line line ≡ report_line other → line ≡ other
line_once line other h k e =
    let first = line_again line h in
    let second : line_of_text (report_line line) ≡ Some other = rw e (line_again other k) in
    some_is line other (sym first ∙ second)

-- a text that begins with a line is cut after it, and it is read
pub line_there : (text rest : List ℕ) (line : ReportLine) → IsWellFormed line → text ≡ report_line line ++ 10 ∷ rest → IsFirstLine text (Some line) rest
line_there text rest line form e = (report_line line, rw e (cut_again 10 (report_line line) rest (line_without line form)), line_again line form)
