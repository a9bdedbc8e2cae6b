-- Parsing a line of a rules text inverts writing it.
use Rattle.std.proofs.Common.{◌≡◌, ℕ, suc, ◌+◌, ◌<◌, ◌≤◌, inl, inr, true, false, Bool, not, eqb, List, [], ◌∷◌, ◌++◌, length, take, drop, get_or, Option, Some, None, refl, sym, ap, ◌∙◌, subst, arith, codes, append_assoc, append-nil, add-one, drop-cons}
use Rattle.std.specs.Prelude.{slice_get, unwrap_or, option_and_then, option_map}
use Rattle.std.specs.Char.{is_ascii_alphanumeric}
use Rattle.std.specs.List.{list_all, position, position_or_len}
use Rattle.std.specs.Str.{bytes_eq, is_utf8, IsUtf8}
use Rattle.std.proofs.lemmas.Bool.{and_parts, and_from, cases_Bool, cases_lt, false≢true, le-ltb, lt-ltb}
use Rattle.std.proofs.lemmas.Bool.Decides.{nat_tests}
use Rattle.std.proofs.Math.ListN.{drop_of_length-le}
use Rattle.std.proofs.Math.Seq.{drop-append_seam, take-append_seam}
use Rattle.std.proofs.lemmas.List.{take-append-drop}
use Rattle.std.proofs.lemmas.Option.{option_and_then_some}
use Rattle.std.proofs.lemmas.Str.{IsUtf8-from_is_utf8, is_utf8-from_IsUtf8}
use Rattle.std.proofs.lemmas.Slice.Eq.{bytes_eq-Decides}
use Rattle.texts.specs.Fields.{split_at_first, named, is_name}
use Rattle.texts.proofs.FieldCuts.{cut_takes, cut_again, some_is}
use Rattle.texts.proofs.FieldNames.{named_takes, named_again, name_without}
use Rattle.cut_net.proofs.NetLines.{map_some}
use Rattle.cut_rules.specs.declared.rule.RuleKind.{RuleKind}
use Rattle.cut_rules.specs.declared.rule.RuleKind.TheVariants as kinds
use Rattle.cut_rules.specs.RuleLines.{RuleLine, Selector, Module, Folder, Named, Tree, Adds, Restricts, Allow, rule_line, is_blank, keyword, EndsRule, IsComment, IsEmptyOrComment, IsPieceAt, IsRuleLine, MayFollow, States, Spells}
use Rattle.cut_rules.specs.LineReading.{is_comment, is_empty_or_comment, kind_of, last_name_of, line_after, line_of_fields, line_of_names, names_of_rule, rule_line_of, rule_of, parse_set_name, set_of, text_of}

-- ---- comments

comment_takes : (text : List ℕ) → is_comment text ≡ true → IsComment text
unfolding is_comment
comment_takes [] e = absurd (false≢true e)
comment_takes (b ∷ text) e = elim (cases_Bool (is_blank b)) [
  | inl blank ↦
      let c = comment_takes text (rw blank at e) in
      record { blanks = b ∷ c.blanks; rest = c.rest; are_blank = and_from _ _ blank c.are_blank; whole = ap (λ (t : List ℕ). b ∷ t) c.whole }
  | inr other ↦
      let hash : eqb b 35 ≡ true = rw other at e in
      record { blanks = []; rest = text; are_blank = refl; whole = (let same : b ≡ 35 = grind (arith, nat_tests) in ap (λ (c : ℕ). c ∷ text) same) }
]

comment_again : (blanks rest : List ℕ) → list_all is_blank blanks ≡ true → is_comment (blanks ++ 35 ∷ rest) ≡ true
unfolding is_comment
comment_again [] rest e = refl
comment_again (b ∷ blanks) rest e = let p = and_parts (is_blank b) (list_all is_blank blanks) e in rw p.0 (comment_again blanks rest p.1)

comment_is : (text : List ℕ) → IsComment text → is_comment text ≡ true
comment_is text c = ap is_comment c.whole ∙ comment_again c.blanks c.rest c.are_blank

pub idle_takes : (piece : List ℕ) → is_empty_or_comment piece ≡ true → IsEmptyOrComment piece
idle_takes [] e = inl refl
idle_takes (b ∷ text) e = inr (comment_takes (b ∷ text) e)

pub idle_is : (piece : List ℕ) → IsEmptyOrComment piece → is_empty_or_comment piece ≡ true
idle_is [] either = refl
idle_is (b ∷ text) (inl e) = absurd cc
idle_is (b ∷ text) (inr c) = comment_is (b ∷ text) c

-- ---- the last name

blank_at : (fields : List ℕ) → is_empty_or_comment (drop (position_or_len is_blank fields) fields) ≡ true → EndsRule (drop (position_or_len is_blank fields) fields)
blank_at [] e = tt
blank_at (b ∷ fields) e = elim (cases_Bool (is_blank b)) [
  | inl blank ↦ rw blank ((blank, comment_takes (b ∷ fields) (rw blank at e)))
  | inr other ↦
      let next : 1 + position_or_len is_blank fields ≡ suc (position_or_len is_blank fields) = omega arith in
      rw (other, next) (blank_at fields (rw (other, next) at e))
]

last_takes : (fields name : List ℕ) → last_name_of fields ≡ Some name → (comment : List ℕ) × (fields ≡ name ++ comment) × (is_name name ≡ true) × EndsRule comment
unfolding last_name_of
last_takes fields name e = elim (cases_Bool (is_empty_or_comment (drop (position_or_len is_blank fields) fields))) [
  | inl idle ↦
      let end = position_or_len is_blank fields in
      let p = named_takes (take end fields) name (rw idle at e) in (
        drop end fields,
        sym (take-append-drop end fields) ∙ ap (λ (t : List ℕ). t ++ drop end fields) p.0,
        p.1,
        blank_at fields idle,
      )
  | inr other ↦ absurd (let none : None ≡ Some name = rw other at e in cc)
]

-- no byte of a name is a blank
letters_sharp : (bytes : List ℕ) → list_all is_ascii_alphanumeric bytes ≡ true → list_all (λ b. not (is_blank b)) bytes ≡ true
letters_sharp [] e = refl
letters_sharp (b ∷ bytes) e = let p = and_parts _ _ e in and_from _ _ (grind (arith, nat_tests)) (letters_sharp bytes p.1)

name_sharp : (name : List ℕ) → is_name name ≡ true → list_all (λ b. not (is_blank b)) name ≡ true
name_sharp [] e = refl
name_sharp (b ∷ bytes) e = let p = and_parts _ _ e in and_from _ _ (grind (arith, nat_tests)) (letters_sharp bytes p.1)

name_ends : (name comment : List ℕ) → list_all (λ b. not (is_blank b)) name ≡ true → EndsRule comment → position_or_len is_blank (name ++ comment) ≡ length name
name_ends [] [] e ends = refl
name_ends [] (b ∷ text) e ends = rw ends.0 refl
name_ends (b ∷ name) comment e ends =
    let p = and_parts (not (is_blank b)) (list_all (λ c. not (is_blank c)) name) e in
    let rest = name_ends name comment p.1 ends in
    rw p.0 (omega arith)

idle_end : (comment : List ℕ) → EndsRule comment → is_empty_or_comment comment ≡ true
idle_end [] ends = refl
idle_end (b ∷ text) ends = comment_is (b ∷ text) ends.1

last_again : (name comment : List ℕ) → is_name name ≡ true → EndsRule comment → last_name_of (name ++ comment) ≡ Some name
unfolding last_name_of
last_again name comment p ends = rw (name_ends name comment (name_sharp name p) ends, drop-append_seam name comment, idle_end comment ends, take-append_seam name comment, named_again name p) refl

-- how the last name is read
pub last_by : (fields : List ℕ) (end : ℕ) → end ≡ position_or_len is_blank fields → is_empty_or_comment (drop end fields) ≡ true → last_name_of fields ≡ named (take end fields)
unfolding last_name_of
last_by fields end at idle = rw (← at, idle) refl

pub last_none : (fields : List ℕ) (end : ℕ) → end ≡ position_or_len is_blank fields → is_empty_or_comment (drop end fields) ≡ false → last_name_of fields ≡ None
unfolding last_name_of
last_none fields end at other = rw (← at, other) refl

-- the first index, or the length
pub index_or_len : (test : ℕ → Bool) (xs : List ℕ) → unwrap_or (position test xs) (length xs) ≡ position_or_len test xs
index_or_len test xs = elim (cases_lt (position_or_len test xs) (length xs)) [
  | inl lt ↦ rw (lt-ltb _ _ lt) refl
  | inr ge ↦ let le = prefix_low xs in rw (le-ltb _ _ ge) (omega arith)
]
  where
    prefix_low : (ys : List ℕ) → position_or_len test ys ≤ length ys
    prefix_low [] = omega arith
    prefix_low (y ∷ ys) = elim (cases_Bool (test y)) [
      | inl passes ↦ rw passes (omega arith)
      | inr fails ↦ let le = prefix_low ys in rw fails (omega arith)
    ]

-- a comment goes on after a blank
pub comment_more : (bytes : List ℕ) (i : ℕ) → i < length bytes → is_blank (get_or bytes i 0) ≡ true → is_comment (drop i bytes) ≡ is_comment (drop (i + 1) bytes)
unfolding is_comment
comment_more bytes i lt blank = rw (drop-cons bytes i 0, add-one, blank) refl

pub comment_here : (bytes : List ℕ) (i : ℕ) → i < length bytes → is_blank (get_or bytes i 0) ≡ false → is_comment (drop i bytes) ≡ eqb (get_or bytes i 0) 35
unfolding is_comment
comment_here bytes i lt other = rw (drop-cons bytes i 0, other) refl

pub comment_end : (bytes : List ℕ) (i : ℕ) → length bytes ≤ i → is_comment (drop i bytes) ≡ false
unfolding is_comment
comment_end bytes i le = rw (drop_of_length-le bytes {i = i} le) refl

-- ---- lines

-- what is read after a word
abbrev after : List ℕ → List ℕ → List ℕ
after word fields = word ++ 32 ∷ fields

text_takes : (bytes text : List ℕ) → text_of bytes ≡ Some text → (bytes ≡ text) × IsUtf8 text
unfolding text_of
text_takes bytes text e = elim (cases_Bool (is_utf8 bytes)) [
  | inl good ↦ let same : bytes ≡ text = some_is bytes text (rw good at e) in (same, subst IsUtf8 same (IsUtf8-from_is_utf8 bytes good))
  | inr bad ↦ absurd (let none : None ≡ Some text = rw bad at e in cc)
]

pub text_none : (bytes : List ℕ) → (IsUtf8 bytes → ⊥) → text_of bytes ≡ None
unfolding text_of
text_none bytes none = elim (cases_Bool (is_utf8 bytes)) [
  | inl good ↦ absurd (none (IsUtf8-from_is_utf8 bytes good))
  | inr bad ↦ rw bad refl
]

pub text_again : (text : List ℕ) → IsUtf8 text → text_of text ≡ Some text
unfolding text_of
text_again text good = rw (is_utf8-from_IsUtf8 text good) refl

kind_takes : (word : List ℕ) (kind : RuleKind) → kind_of word ≡ Some kind → word ≡ keyword kind
kind_takes word kind e = elim (cases_Bool (bytes_eq word (codes "forbid"))) [
  | inl is ↦ let same : kinds.Forbid ≡ kind = some_is kinds.Forbid kind (rw is at e) in (bytes_eq-Decides word (codes "forbid")).0 is ∙ ap keyword same
  | inr a ↦ elim (cases_Bool (bytes_eq word (codes "forbid-import"))) [
    | inl is ↦ let same : kinds.ForbidImport ≡ kind = some_is kinds.ForbidImport kind (rw (a, is) at e) in (bytes_eq-Decides word (codes "forbid-import")).0 is ∙ ap keyword same
    | inr b ↦ elim (cases_Bool (bytes_eq word (codes "may"))) [
      | inl is ↦ let same : kinds.May ≡ kind = some_is kinds.May kind (rw (a, b, is) at e) in (bytes_eq-Decides word (codes "may")).0 is ∙ ap keyword same
      | inr c ↦ absurd (let none : None ≡ Some kind = rw (a, b, c) at e in cc)
    ]
  ]
]

-- what a line is after its keyword and a comment
abbrev Reads : List ℕ → RuleLine → Type 0
Reads bytes l = (comment : List ℕ) × (bytes ≡ rule_line l ++ comment) × IsRuleLine l × MayFollow l comment

-- with the keyword and the first name before it a name and its comment are the line
two_names : (word m n comment : List ℕ) → after word (m ++ 32 ∷ (n ++ comment)) ≡ (word ++ 32 ∷ (m ++ 32 ∷ n)) ++ comment
two_names word m n comment = sym (append_assoc word (32 ∷ (m ++ 32 ∷ n)) comment ∙ ap (λ (t : List ℕ). word ++ 32 ∷ t) (append_assoc m (32 ∷ n) comment))

names_read : (word m n comment : List ℕ) (l : RuleLine) → is_name m ≡ true → is_name n ≡ true → EndsRule comment → line_of_names word m n ≡ Some l → Reads (after word (m ++ 32 ∷ (n ++ comment))) l
names_read word m n comment l p q ends e = elim (cases_Bool (bytes_eq word (codes "set"))) [
  | inl is ↦
      let same : Adds m (Module n) ≡ l = some_is _ l (rw is at e) in
      let word_is = (bytes_eq-Decides word (codes "set")).0 is in
      rw (← same, word_is) (comment, two_names (codes "set") m n comment, (p, q), ends)
  | inr a ↦ elim (cases_Bool (bytes_eq word (codes "allow"))) [
    | inl is ↦
        let same : Allow m n ≡ l = some_is _ l (rw (a, is) at e) in
        let word_is = (bytes_eq-Decides word (codes "allow")).0 is in
        rw (← same, word_is) (comment, two_names (codes "allow") m n comment, (p, q), ends)
    | inr b ↦ map_some (λ (kind : RuleKind). Restricts kind m n) (kind_of word) l (rw (a, b) at e) (λ kind h same.
        let word_is = kind_takes word kind h in
        rw (← same, word_is) (comment, two_names (keyword kind) m n comment, (p, q), ends))
  ]
]

after_takes : (word first last : List ℕ) (l : RuleLine) → is_name first ≡ true → line_after word first last ≡ Some l → Reads (after word (first ++ 32 ∷ last)) l
unfolding line_after
after_takes word first last l p e = elim (cases_Bool (bytes_eq word (codes "folder"))) [
  | inl is ↦
      let word_is = (bytes_eq-Decides word (codes "folder")).0 is in
      map_some (λ (path : List ℕ). Adds first (Folder path)) (text_of last) l (rw is at e) (λ path h same.
      let t = text_takes last path h in
      rw (← same, word_is, t.0) ([], sym (append-nil _), (p, t.1), refl))
  | inr a ↦ elim (cases_Bool (bytes_eq word (codes "named"))) [
    | inl is ↦
        let word_is = (bytes_eq-Decides word (codes "named")).0 is in
        map_some (λ (pattern : List ℕ). Adds first (Named pattern)) (text_of last) l (rw (a, is) at e) (λ pattern h same.
        let t = text_takes last pattern h in
        rw (← same, word_is, t.0) ([], sym (append-nil _), (p, t.1), refl))
    | inr b ↦ option_and_then_some _ (last_name_of last) l (rw (a, b) at e) (λ second h e.
        let (comment, whole, q, ends) = last_takes last second h in
        rw whole (names_read word first second comment l p q ends e))
  ]
]

fields_takes : (word fields : List ℕ) (l : RuleLine) → line_of_fields word fields ≡ Some l → Reads (after word fields) l
unfolding line_of_fields
fields_takes word fields l e = elim (cases_Bool (bytes_eq word (codes "tree"))) [
  | inl is ↦
      let word_is = (bytes_eq-Decides word (codes "tree")).0 is in
      map_some (λ (s : List ℕ). Adds s Tree) (last_name_of fields) l (rw is at e) (λ s h same.
      let (comment, whole, q, ends) = last_takes fields s h in
      rw (← same, word_is, whole) (comment, sym (append_assoc (codes "tree") (32 ∷ s) comment), q, ends))
  | inr a ↦ option_and_then_some _ (split_at_first 32 fields) l (rw a at e) (λ parts h1 e.
      option_and_then_some _ (named parts.0) l e (λ first h2 e.
      let p = named_takes parts.0 first h2 in
      let whole : fields ≡ first ++ 32 ∷ parts.1 = cut_takes 32 fields parts h1 ∙ rw p.0 refl in
      rw whole (after_takes word first parts.1 l p.1 e)))
]

-- the bytes of a parsed line are those of its content
pub line_takes : (piece : List ℕ) (l : RuleLine) → rule_line_of piece ≡ Some l → Spells piece l
unfolding rule_line_of
line_takes piece l e = option_and_then_some _ (split_at_first 32 piece) l e (λ parts h e.
    let (comment, whole, form, follows) = fields_takes parts.0 parts.1 l e in
    record { form = form; comment = comment; follows = follows; whole = cut_takes 32 piece parts h ∙ whole })

-- ---- the bytes of a valid line are parsed as its content

kind_again : (kind : RuleKind) → kind_of (keyword kind) ≡ Some kind
kind_again kinds.Forbid = refl
kind_again kinds.ForbidImport = refl
kind_again kinds.May = refl

line_again_of : (l : RuleLine) (comment : List ℕ) → IsRuleLine l → MayFollow l comment → rule_line_of (rule_line l ++ comment) ≡ Some l
unfolding rule_line_of line_of_fields line_after
line_again_of (Adds s (Module m)) comment h ends =
    rw (append_assoc s (32 ∷ m) comment, cut_again 32 (codes "set") (s ++ 32 ∷ (m ++ comment)) refl, cut_again 32 s (m ++ comment) (name_without 32 s refl h.0), named_again s h.0, last_again m comment h.1 ends) refl
line_again_of (Adds s (Folder path)) comment h ends =
    rw (ends, append-nil (s ++ 32 ∷ path), cut_again 32 (codes "folder") (s ++ 32 ∷ path) refl, cut_again 32 s path (name_without 32 s refl h.0), named_again s h.0, text_again path h.1) refl
line_again_of (Adds s (Named pattern)) comment h ends =
    rw (ends, append-nil (s ++ 32 ∷ pattern), cut_again 32 (codes "named") (s ++ 32 ∷ pattern) refl, cut_again 32 s pattern (name_without 32 s refl h.0), named_again s h.0, text_again pattern h.1) refl
line_again_of (Adds s Tree) comment h ends = rw (cut_again 32 (codes "tree") (s ++ comment) refl, last_again s comment h ends) refl
line_again_of (Restricts kinds.Forbid x y) comment h ends =
    rw (append_assoc x (32 ∷ y) comment, cut_again 32 (codes "forbid") (x ++ 32 ∷ (y ++ comment)) refl, cut_again 32 x (y ++ comment) (name_without 32 x refl h.0), named_again x h.0, last_again y comment h.1 ends) refl
line_again_of (Restricts kinds.ForbidImport x y) comment h ends =
    rw (append_assoc x (32 ∷ y) comment, cut_again 32 (codes "forbid-import") (x ++ 32 ∷ (y ++ comment)) refl, cut_again 32 x (y ++ comment) (name_without 32 x refl h.0), named_again x h.0, last_again y comment h.1 ends) refl
line_again_of (Restricts kinds.May x y) comment h ends =
    rw (append_assoc x (32 ∷ y) comment, cut_again 32 (codes "may") (x ++ 32 ∷ (y ++ comment)) refl, cut_again 32 x (y ++ comment) (name_without 32 x refl h.0), named_again x h.0, last_again y comment h.1 ends) refl
line_again_of (Allow m n) comment h ends =
    rw (append_assoc m (32 ∷ n) comment, cut_again 32 (codes "allow") (m ++ 32 ∷ (n ++ comment)) refl, cut_again 32 m (n ++ comment) (name_without 32 m refl h.0), named_again m h.0, last_again n comment h.1 ends) refl

pub line_again : (piece : List ℕ) (l : RuleLine) → Spells piece l → rule_line_of piece ≡ Some l
line_again piece l s = ap rule_line_of s.whole ∙ line_again_of l s.comment s.form s.follows

-- the bytes spell one line
pub line_once : (piece : List ℕ) (l k : RuleLine) → Spells piece l → Spells piece k → l ≡ k
line_once piece l k a b = some_is l k (sym (line_again piece l a) ∙ line_again piece k b)

-- the field of the name of a line that adds modules to a set
name_stops : (name : List ℕ) (b : ℕ) (text : List ℕ) → list_all (λ c. not (is_blank c)) name ≡ true → is_blank b ≡ true → position_or_len is_blank (name ++ b ∷ text) ≡ length name
name_stops [] b text e blank = rw blank refl
name_stops (c ∷ name) b text e blank =
    let p = and_parts (not (is_blank c)) (list_all (λ d. not (is_blank d)) name) e in
    let rest = name_stops name b text p.1 blank in
    rw p.0 (omega arith)

named_field : (name rest : List ℕ) → position_or_len is_blank (name ++ rest) ≡ length name → take (position_or_len is_blank (name ++ rest)) (name ++ rest) ≡ name
named_field name rest e = rw e (take-append_seam name rest)

abbrev HasField : List ℕ → List ℕ → Type 0
HasField piece s = (parts : List ℕ × List ℕ) × (split_at_first 32 piece ≡ Some parts) × (take (position_or_len is_blank parts.1) parts.1 ≡ s)

field_of : (s : List ℕ) (selector : Selector) (comment : List ℕ) → IsRuleLine (Adds s selector) → MayFollow (Adds s selector) comment → HasField (rule_line (Adds s selector) ++ comment) s
field_of s (Module m) comment h ends =
    ((codes "set", s ++ 32 ∷ (m ++ comment)), rw (append_assoc s (32 ∷ m) comment) (cut_again 32 (codes "set") (s ++ 32 ∷ (m ++ comment)) refl), named_field s (32 ∷ (m ++ comment)) (name_stops s 32 (m ++ comment) (name_sharp s h.0) refl))
field_of s (Folder path) comment h ends =
    ((codes "folder", s ++ 32 ∷ (path ++ comment)), rw (append_assoc s (32 ∷ path) comment) (cut_again 32 (codes "folder") (s ++ 32 ∷ (path ++ comment)) refl), named_field s (32 ∷ (path ++ comment)) (name_stops s 32 (path ++ comment) (name_sharp s h.0) refl))
field_of s (Named pattern) comment h ends =
    ((codes "named", s ++ 32 ∷ (pattern ++ comment)), rw (append_assoc s (32 ∷ pattern) comment) (cut_again 32 (codes "named") (s ++ 32 ∷ (pattern ++ comment)) refl), named_field s (32 ∷ (pattern ++ comment)) (name_stops s 32 (pattern ++ comment) (name_sharp s h.0) refl))
field_of s Tree comment h ends = ((codes "tree", s ++ comment), cut_again 32 (codes "tree") (s ++ comment) refl, named_field s comment (name_ends s comment (name_sharp s h) ends))

pub set_field_is : (piece s : List ℕ) → set_of piece ≡ Some s → HasField piece s
unfolding set_of
set_field_is piece s e = option_and_then_some parse_set_name (rule_line_of piece) s e (λ l h e. by l (line_takes piece l h) e)
  where
    by : (l : RuleLine) → Spells piece l → parse_set_name l ≡ Some s → HasField piece s
    by (Adds t selector) spelled e = subst (HasField piece) (some_is t s e) (subst (λ (p : List ℕ). HasField p t) (sym spelled.whole) (field_of t selector spelled.comment spelled.form spelled.follows))
    by (Restricts kind x y) spelled e = absurd cc
    by (Allow m n) spelled e = absurd cc

-- how the names of a rule are read
pub rule_by : (piece word fields : List ℕ) → split_at_first 32 piece ≡ Some (word, fields) → rule_of piece ≡ option_and_then names_of_rule (line_of_fields word fields)
unfolding rule_of rule_line_of
rule_by piece word fields e = ap (λ (o : Option (List ℕ × List ℕ)). option_and_then names_of_rule (option_and_then (λ parts. line_of_fields parts.0 parts.1) o)) e

-- a line without a rule's keyword is no rule
pub no_kind : (word fields : List ℕ) → kind_of word ≡ None → option_and_then names_of_rule (line_of_fields word fields) ≡ None
unfolding line_of_fields line_after
no_kind word fields none = elim (cases_Bool (bytes_eq word (codes "tree"))) [
  | inl is ↦ rw is (no_name (last_name_of fields))
  | inr a ↦ rw a (parts_none (split_at_first 32 fields))
]
  where
    no_name : (o : Option (List ℕ)) → option_and_then names_of_rule (option_map (λ s. Adds s Tree) o) ≡ None
    no_name (Some s) = refl
    no_name None = refl

    no_path : (f : List ℕ → RuleLine) → ((t : List ℕ) → names_of_rule (f t) ≡ None) → (o : Option (List ℕ)) → option_and_then names_of_rule (option_map f o) ≡ None
    no_path f same (Some t) = same t
    no_path f same None = refl

    names_none : (x y : List ℕ) → option_and_then names_of_rule (line_of_names word x y) ≡ None
    names_none x y = elim (cases_Bool (bytes_eq word (codes "set"))) [
      | inl is ↦ rw is refl
      | inr a ↦ elim (cases_Bool (bytes_eq word (codes "allow"))) [
        | inl is ↦ rw (a, is) refl
        | inr b ↦ rw (a, b, none) refl
      ]
    ]

    second_none : (x : List ℕ) (o : Option (List ℕ)) → option_and_then names_of_rule (option_and_then (λ y. line_of_names word x y) o) ≡ None
    second_none x (Some y) = names_none x y
    second_none x None = refl

    after_none : (last x : List ℕ) → option_and_then names_of_rule (line_after word x last) ≡ None
    after_none last x = elim (cases_Bool (bytes_eq word (codes "folder"))) [
      | inl is ↦ rw is (no_path (λ path. Adds x (Folder path)) (λ t. refl) (text_of last))
      | inr a ↦ elim (cases_Bool (bytes_eq word (codes "named"))) [
        | inl is ↦ rw (a, is) (no_path (λ pattern. Adds x (Named pattern)) (λ t. refl) (text_of last))
        | inr b ↦ rw (a, b) (second_none x (last_name_of last))
      ]
    ]

    first_none : (last : List ℕ) (o : Option (List ℕ)) → option_and_then names_of_rule (option_and_then (λ x. line_after word x last) o) ≡ None
    first_none last (Some x) = after_none last x
    first_none last None = refl

    parts_none : (o : Option (List ℕ × List ℕ)) → option_and_then names_of_rule (option_and_then (λ parts. option_and_then (λ x. line_after word x parts.1) (named parts.0)) o) ≡ None
    parts_none (Some parts) = first_none parts.1 (named parts.0)
    parts_none None = refl

-- bytes that aren't parsed are the bytes of no valid line
pub no_line : (piece : List ℕ) → rule_line_of piece ≡ None → (l : RuleLine) → Spells piece l → ⊥
no_line piece none l s = let e : Some l ≡ None = sym (line_again piece l s) ∙ none in cc

-- a line isn't idle
pub line_written : (l : RuleLine) (comment : List ℕ) → is_empty_or_comment (rule_line l ++ comment) ≡ false
unfolding is_comment
line_written (Adds s (Module m)) comment = refl
line_written (Adds s (Folder path)) comment = refl
line_written (Adds s (Named pattern)) comment = refl
line_written (Adds s Tree) comment = refl
line_written (Restricts kinds.Forbid x y) comment = refl
line_written (Restricts kinds.ForbidImport x y) comment = refl
line_written (Restricts kinds.May x y) comment = refl
line_written (Allow m n) comment = refl

-- ---- lines of a text

pub one_piece : (pieces : List (List ℕ)) (line : ℕ) (p q : List ℕ) → IsPieceAt pieces line p → IsPieceAt pieces line q → p ≡ q
one_piece pieces line p q a b =
    let e : a.place ≡ b.place = (let x = a.number in let y = b.number in omega arith) in
    some_is p q (sym a.present ∙ ap (slice_get pieces) e ∙ b.present)

-- a line states one thing
pub says_one : (pieces : List (List ℕ)) (line : ℕ) (l k : RuleLine) → States pieces line l → States pieces line k → l ≡ k
says_one pieces line l k a b = line_once a.piece l k a.spelled (subst (λ (p : List ℕ). Spells p k) (one_piece pieces line b.piece a.piece b.at a.at) b.spelled)

-- an idle line states nothing
pub idle_says : (pieces : List (List ℕ)) (line : ℕ) (piece : List ℕ) (l : RuleLine) → IsPieceAt pieces line piece → is_empty_or_comment piece ≡ true → States pieces line l → ⊥
idle_says pieces line piece l at idle s =
    let e : true ≡ false = sym idle ∙ ap is_empty_or_comment (one_piece pieces line piece s.piece at s.at ∙ s.spelled.whole) ∙ line_written l s.spelled.comment in
    absurd (false≢true (sym e))
