-- The texts of tokens have three shapes: letters and digits, one or two other bytes, and quotes.
use Rattle.std.proofs.Common.{◌≡◌, ℕ, Bool, true, false, eqb, ltb, List, [], ◌∷◌, ◌++◌, Some, refl, ap, ◌∙◌, inl, inr, arith}
use Rattle.std.specs.List.{list_all}
use Rattle.std.specs.Char.{is_ascii_alphabetic, is_ascii_alphanumeric, is_ascii_digit}
use Rattle.std.proofs.lemmas.Bool.{and_parts, or_cases, and_from, not-true}
use Rattle.std.proofs.lemmas.Bool.Decides.{nat_tests}
use Rattle.ob_scan.specs.declared.kind.Kind.{Kind}
use Rattle.ob_scan.specs.declared.kind.Kind.TheVariants as kinds
use Rattle.ob_scan.specs.Comments.{begins_comment}
use Rattle.ob_scan.specs.Kinds.{text_of}
use Rattle.ob_scan.specs.Numbers.{first_passes}
use Rattle.ob_scan.specs.Tokens.{is_name, is_no_quote, IsText, fixed, name, quoted, StartsWith}
use Rattle.ob_scan.proofs.Texts.{is_sign, is_sign_byte, listed}

pub data Shape (k : Kind) (text : List ℕ) : Type 0 where
  word : is_name text ≡ true → Shape k text
  sign : is_sign text ≡ true → text_of k ≡ Some text → Shape k text
  string : (inside : List ℕ) → k ≡ kinds.Text → list_all is_no_quote inside ≡ true → text ≡ 34 ∷ inside ++ 34 ∷ [] → Shape k text

pub shape_of : {k : Kind} {text : List ℕ} → IsText k text → Shape k text
shape_of {k} {text} (fixed e) = elim (or_cases _ _ (listed k text e).1) [ inl n ↦ word n | inr s ↦ sign s e ]
shape_of (name n x) = word n
shape_of (quoted inside n e) = string inside refl n e

begins_front : (p : ℕ → Bool) (text rest : List ℕ) → first_passes p text ≡ true → first_passes p (text ++ rest) ≡ true
begins_front p [] rest e = absurd cc
begins_front p (b ∷ text) rest e = e

word_begins : (text : List ℕ) → is_name text ≡ true → first_passes is_ascii_alphabetic text ≡ true
word_begins [] e = e
word_begins (b ∷ text) e = (and_parts _ _ e).0

sign_begins : (text : List ℕ) → is_sign text ≡ true → first_passes is_sign_byte text ≡ true
sign_begins [] e = e
sign_begins (b ∷ []) e = e
sign_begins (b ∷ c ∷ []) e = e
sign_begins (b ∷ c ∷ d ∷ text) e = absurd cc

-- the first element of the bytes, by cases of the first byte
pub begins_word : {k : Kind} {text bs : List ℕ} → StartsWith k text bs → is_name text ≡ true → first_passes is_ascii_alphabetic bs ≡ true
begins_word {k} {text} {bs} s e = ap (first_passes is_ascii_alphabetic) s.front ∙ begins_front is_ascii_alphabetic text s.rest (word_begins text e)

pub begins_sign : {k : Kind} {text bs : List ℕ} → StartsWith k text bs → is_sign text ≡ true → first_passes is_sign_byte bs ≡ true
begins_sign {k} {text} {bs} s e = ap (first_passes is_sign_byte) s.front ∙ begins_front is_sign_byte text s.rest (sign_begins text e)

abbrev pub is_quote : ℕ → Bool
is_quote b = eqb b 34

pub begins_string : {k : Kind} {text bs : List ℕ} (inside : List ℕ) → StartsWith k text bs → text ≡ 34 ∷ inside ++ 34 ∷ [] → first_passes is_quote bs ≡ true
begins_string {k} {text} {bs} inside s e = ap (first_passes is_quote) (s.front ∙ ap (λ (t : List ℕ). t ++ s.rest) e)

-- a comment begins with `(`
pub begins_paren : (bs : List ℕ) → begins_comment bs ≡ true → first_passes (λ b. eqb b 40) bs ≡ true
begins_paren [] e = absurd cc
begins_paren (b ∷ []) e = absurd cc
begins_paren (b ∷ c ∷ bs) e = (and_parts _ _ e).0

-- two tests that no byte passes
pub apart : (p q : ℕ → Bool) → ((b : ℕ) → p b ≡ true → q b ≡ true → ⊥) → (bs : List ℕ) → first_passes p bs ≡ true → first_passes q bs ≡ true → ⊥
apart p q h [] e f = absurd cc
apart p q h (b ∷ bs) e f = h b e f

abbrev pub is_blank : ℕ → Bool
is_blank b = ltb b 33

pub letter_digit : (b : ℕ) → is_ascii_alphabetic b ≡ true → is_ascii_digit b ≡ true → ⊥
letter_digit b e f = grind (arith, nat_tests)

pub letter_quote : (b : ℕ) → is_ascii_alphabetic b ≡ true → is_quote b ≡ true → ⊥
letter_quote b e f = grind (arith, nat_tests)

pub letter_blank : (b : ℕ) → is_ascii_alphabetic b ≡ true → is_blank b ≡ true → ⊥
letter_blank b e f = grind (arith, nat_tests)

pub letter_paren : (b : ℕ) → is_ascii_alphabetic b ≡ true → eqb b 40 ≡ true → ⊥
letter_paren b e f = grind (arith, nat_tests)

pub quote_digit : (b : ℕ) → is_quote b ≡ true → is_ascii_digit b ≡ true → ⊥
quote_digit b e f = grind (arith, nat_tests)

pub quote_blank : (b : ℕ) → is_quote b ≡ true → is_blank b ≡ true → ⊥
quote_blank b e f = grind (arith, nat_tests)

pub quote_paren : (b : ℕ) → is_quote b ≡ true → eqb b 40 ≡ true → ⊥
quote_paren b e f = grind (arith, nat_tests)

pub digit_blank : (b : ℕ) → is_ascii_digit b ≡ true → is_blank b ≡ true → ⊥
digit_blank b e f = grind (arith, nat_tests)

pub digit_paren : (b : ℕ) → is_ascii_digit b ≡ true → eqb b 40 ≡ true → ⊥
digit_paren b e f = grind (arith, nat_tests)

pub paren_blank : (b : ℕ) → eqb b 40 ≡ true → is_blank b ≡ true → ⊥
paren_blank b e f = grind (arith, nat_tests)

-- what a delimiter's first byte is not
record IsNone (b : ℕ) : Type 0 where
  letter : is_ascii_alphabetic b ≡ false
  digit : is_ascii_digit b ≡ false
  quote : is_quote b ≡ false
  blank : is_blank b ≡ false

none_of : (b : ℕ) → is_sign_byte b ≡ true → IsNone b
none_of b e =
    let p = and_parts _ _ e in
    let q = and_parts _ _ p.1 in
    let r = and_parts _ _ q.1 in
    record { letter = not-true _ p.0; digit = not-true _ q.0; quote = not-true _ r.0; blank = not-true _ r.1 }

pub sign_letter : (b : ℕ) → is_sign_byte b ≡ true → is_ascii_alphabetic b ≡ false
sign_letter b e = (none_of b e).letter

pub letter_sign : (b : ℕ) → is_ascii_alphabetic b ≡ true → is_sign_byte b ≡ true → ⊥
letter_sign b e f = let g = (none_of b f).letter in cc

pub quote_sign : (b : ℕ) → is_quote b ≡ true → is_sign_byte b ≡ true → ⊥
quote_sign b e f = let g = (none_of b f).quote in cc

pub blank_sign : (b : ℕ) → is_blank b ≡ true → is_sign_byte b ≡ true → ⊥
blank_sign b e f = let g = (none_of b f).blank in cc

pub letter_alphanumeric : (b : ℕ) → is_ascii_alphabetic b ≡ true → is_ascii_alphanumeric b ≡ true
letter_alphanumeric b e = grind (arith, nat_tests)

-- a name is letters and digits throughout
pub word_all : (text : List ℕ) → is_name text ≡ true → list_all is_ascii_alphanumeric text ≡ true
word_all [] e = refl
word_all (b ∷ text) e = let p = and_parts _ _ e in and_from _ _ (letter_alphanumeric b p.0) p.1
