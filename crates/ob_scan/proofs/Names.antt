-- The longest run of letters and digits after a letter is a token.
use Rattle.std.proofs.Common.{◌≡◌, ℕ, ◌≤◌, ◌<◌, true, false, eqb, List, [], ◌∷◌, length, take, drop, Option, Some, None, refl, sym, one-add, arith}
use Rattle.std.specs.Prelude.{unwrap_or}
use Rattle.std.specs.List.{prefix_len}
use Rattle.std.specs.Char.{is_ascii_alphabetic, is_ascii_alphanumeric, is_ascii_digit}
use Rattle.std.proofs.lemmas.Bool.{and_parts, and_from, false_from_ne_true}
use Rattle.std.proofs.lemmas.List.{take-append-drop}
use Rattle.std.proofs.lemmas.List.Folds.{length-prefix_len}
use Rattle.ob_scan.specs.declared.kind.Kind.{Kind}
use Rattle.ob_scan.specs.declared.kind.Kind.TheVariants as kinds
use Rattle.ob_scan.specs.Comments.{begins_comment}
use Rattle.ob_scan.specs.Kinds.{text_of}
use Rattle.ob_scan.specs.Numbers.{first_passes}
use Rattle.ob_scan.specs.Tables.{reserved_word}
use Rattle.ob_scan.specs.Tokens.{is_name, IsText, fixed, name, StartsWith, IsToken, longest}
use Rattle.ob_scan.proofs.Texts.{listed, word_of_is}
use Rattle.ob_scan.proofs.Shapes.{begins_paren, shape_of, word, sign, string, begins_sign, begins_string, apart, letter_digit, letter_sign, letter_quote, letter_paren, is_quote, word_all, letter_alphanumeric}
use Rattle.ob_scan.proofs.Texts.{is_sign_byte}
use Rattle.texts.proofs.NamePrefixes.{run_passes}
use Rattle.ob_scan.proofs.Runs.{run_covers}

reserved_is : (text : List ℕ) → is_name text ≡ true → (k : Kind) → text_of k ≡ Some text → reserved_word text ≡ Some k
reserved_is [] e k f = absurd cc
reserved_is (b ∷ text) e k f = let letter : is_ascii_alphabetic b ≡ true = (and_parts _ _ e).0 in rw letter at (listed k (b ∷ text) f).0

-- a name is the text of its kind
name_text : (text : List ℕ) → is_name text ≡ true → IsText (unwrap_or (reserved_word text) kinds.Ident) text
name_text text e = go (reserved_word text) refl
  where
    go : (o : Option Kind) → reserved_word text ≡ o → IsText (unwrap_or o kinds.Ident) text
    go (Some k) f = fixed (word_of_is text k f)
    go None f = name e (λ k g. let h = reserved_is text e k g in absurd cc)

front_name : (bs : List ℕ) → first_passes is_ascii_alphabetic bs ≡ true → is_name (take (prefix_len is_ascii_alphanumeric bs) bs) ≡ true
front_name [] e = absurd cc
front_name (b ∷ bs) e = rw (letter_alphanumeric b e, one-add) (and_from _ _ e (run_passes is_ascii_alphanumeric bs))

-- no longer token begins here
name_longest : (bs : List ℕ) → first_passes is_ascii_alphabetic bs ≡ true → (j : Kind) (other : List ℕ) → StartsWith j other bs → length other ≤ prefix_len is_ascii_alphanumeric bs
name_longest bs e j other s =
    elim (shape_of s.is_text) [
      | word w ↦ rw s.front (run_covers is_ascii_alphanumeric other s.rest (word_all other w))
      | sign w t ↦ absurd (apart is_ascii_alphabetic is_sign_byte letter_sign bs e (begins_sign s w))
      | string inside k n t ↦ absurd (apart is_ascii_alphabetic is_quote letter_quote bs e (begins_string inside s t))
    ]

pub name_token : (bs : List ℕ) (n : ℕ) → first_passes is_ascii_alphabetic bs ≡ true → n ≡ prefix_len is_ascii_alphanumeric bs → IsToken (unwrap_or (reserved_word (take n bs)) kinds.Ident) n bs
name_token bs n e is =
    let digit : first_passes is_ascii_digit bs ≡ false = false_from_ne_true _ (apart is_ascii_alphabetic is_ascii_digit letter_digit bs e) in
    let comment : begins_comment bs ≡ false = false_from_ne_true _ (λ f. apart is_ascii_alphabetic (λ b. eqb b 40) letter_paren bs e (begins_paren bs f)) in
    rw is (
    longest digit comment (record { is_text = name_text _ (front_name bs e); rest = drop (prefix_len is_ascii_alphanumeric bs) bs; front = sym (take-append-drop (prefix_len is_ascii_alphanumeric bs) bs) })
    (length-prefix_len is_ascii_alphanumeric bs) (name_longest bs e)
    )

pub name_some : (bs : List ℕ) → first_passes is_ascii_alphabetic bs ≡ true → 0 < prefix_len is_ascii_alphanumeric bs
name_some [] e = absurd cc
name_some (b ∷ bs) e = rw (letter_alphanumeric b e) (omega arith)
