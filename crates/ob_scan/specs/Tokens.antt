-- Tokens (Oberon-07 report, section 3).
use Rattle.std.specs.Prelude.{◌≡◌, ◌≢◌, ◌≤◌, ℕ, List, [], ◌∷◌, ◌++◌, length, Some, Bool, true, false, not, ◌==◌, ◌&&◌}
use Rattle.std.specs.List.{list_all}
use Rattle.std.specs.Char.{is_ascii_alphabetic, is_ascii_alphanumeric}
use Rattle.ob_scan.specs.declared.kind.Kind.{Kind}
use Rattle.ob_scan.specs.declared.kind.Kind.TheVariants as kinds
use Rattle.ob_scan.specs.Comments.{begins_comment}
use Rattle.ob_scan.specs.Kinds.{text_of}
use Rattle.ob_scan.specs.Numbers.{begins_digit, number_token}

-- a letter, followed by letters and digits
abbrev pub is_name : List ℕ → Bool
is_name [] = false
is_name (b ∷ bs) = is_ascii_alphabetic b && list_all is_ascii_alphanumeric bs

-- a byte other than the double quote
abbrev pub is_no_quote : ℕ → Bool
is_no_quote b = not (b == 34)

-- a token of this kind that begins with no digit can have this text: a reserved word or delimiter, a name that is not reserved, or a string
-- in quotes
pub data IsText : Kind → List ℕ → Type 0 where
  fixed : {k : Kind} {text : List ℕ} → text_of k ≡ Some text → IsText k text
  name : {text : List ℕ} → is_name text ≡ true → ((k : Kind) → text_of k ≢ Some text) → IsText kinds.Ident text
  quoted : {text : List ℕ} (inside : List ℕ) → list_all is_no_quote inside ≡ true → text ≡ 34 ∷ inside ++ 34 ∷ [] → IsText kinds.Text text

-- the bytes begin with a text of this kind
pub record StartsWith (k : Kind) (text bs : List ℕ) : Type 0 where
  pub is_text : IsText k text
  pub rest : List ℕ
  pub front : bs ≡ text ++ rest

-- the bytes begin with a token of n bytes: the number if the first byte is a digit, else the longest text; a `(` before `*` is no token
pub data IsToken : Kind → ℕ → List ℕ → Type 0 where
  number : {k : Kind} {n : ℕ} {bs : List ℕ} → begins_digit bs ≡ true → number_token bs ≡ Some (k, n) → IsToken k n bs
  longest : {k : Kind} {n : ℕ} {bs text : List ℕ} → begins_digit bs ≡ false → begins_comment bs ≡ false → StartsWith k text bs → length text ≡ n → ((j : Kind) (other : List ℕ) → StartsWith j other bs → length other ≤ n) → IsToken k n bs
