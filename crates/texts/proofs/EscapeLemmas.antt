-- Escaped texts, byte by byte and character by character.
use Rattle.std.proofs.Common.{◌≡◌, ◌++◌, ◌<◌, ℕ, Bool, true, false, cond, List, [], ◌∷◌, length, get_or, map, append-nil, codes, refl, ap, sym, ◌∙◌, arith}
use Rattle.std.specs.Char.{encode_utf8, is_ascii_control}
use Rattle.std.specs.List.{flat_map, list_any}
use Rattle.std.specs.Str.{chars, IsUtf8, encode_utf8_all}
use Rattle.std.proofs.lemmas.Bool.{agree_below_at, or_from, or_parts}
use Rattle.std.proofs.lemmas.Bool.Decides.{nat_tests}
use Rattle.std.proofs.lemmas.Grind.{flat_map-append}
use Rattle.std.proofs.lemmas.List.{get_or_default}
use Rattle.std.proofs.lemmas.List.Elements.{All-from_all_within}
use Rattle.std.proofs.lemmas.List.Folds.{flat_map-map, list_any-append, list_any_none}
use Rattle.std.proofs.lemmas.Str.{encodes-chars, inside_one}
use Rattle.texts.specs.Escapes.{escape_of, escaped, escaped_byte, IsOneLine}

-- ---- bytes

control_is_low : (b : ℕ) → is_ascii_control b ≡ true → b < 128
control_is_low b e = grind (arith, nat_tests)

-- no escape has a control character
escape_is_plain : (b : ℕ) → b < 128 → list_any is_ascii_control (escape_of b) ≡ false
escape_is_plain b l = agree_below_at (λ x. list_any is_ascii_control (escape_of x)) (λ _. false) 128 b refl l

byte_by : (b : ℕ) (t : Bool) → is_ascii_control b ≡ t → list_any is_ascii_control (cond t (escape_of b) (b ∷ [])) ≡ false
byte_by b true e = escape_is_plain b (control_is_low b e)
byte_by b false e = or_from (is_ascii_control b) false e refl

-- no escaped text has a control character
pub plain : (text : List ℕ) → list_any is_ascii_control (escaped text) ≡ false
plain [] = refl
plain (b ∷ text) = list_any-append is_ascii_control (escaped_byte b) (escaped text) ∙ or_from _ _ (byte_by b (is_ascii_control b) refl) (plain text)

-- a text without a control character is unchanged
pub stays : (text : List ℕ) → list_any is_ascii_control text ≡ false → escaped text ≡ text
stays [] e = refl
stays (b ∷ text) e =
    let parts = or_parts (is_ascii_control b) (list_any is_ascii_control text) e in
    ap (λ t. cond t (escape_of b) (b ∷ []) ++ escaped text) parts.0 ∙ ap (λ t. b ∷ t) (stays text parts.1)

-- after words without a control character it is one line
pub one_line : (words text : List ℕ) → list_any is_ascii_control words ≡ false → IsOneLine (words ++ escaped text ++ codes "\n")
one_line words text e = record {
  line = words ++ escaped text;
  ends = refl;
  plain = list_any-append is_ascii_control words (escaped text) ∙ or_from _ _ e (plain text);
}

-- ---- characters

byte_of_char : (c k : ℕ) → is_ascii_control c ≡ false → k < length (encode_utf8 c) → (t : Bool) → is_ascii_control (get_or (encode_utf8 c) k 0) ≡ t → t ≡ false
byte_of_char c k e l true is =
    let same = inside_one c [] (encode_utf8 c) k (sym (append-nil (encode_utf8 c))) l (control_is_low _ is) in
    sym (ap is_ascii_control same ∙ is) ∙ e
byte_of_char c k e l false is = refl

-- a character that is no control character is unchanged
pub char_stays : (c : ℕ) → is_ascii_control c ≡ false → escaped (encode_utf8 c) ≡ encode_utf8 c
char_stays c e = stays (encode_utf8 c) (list_any_none is_ascii_control (encode_utf8 c) (All-from_all_within (λ b. is_ascii_control b ≡ false) (encode_utf8 c) (λ k d from to.
    ap is_ascii_control (get_or_default (encode_utf8 c) k d 0 to) ∙ byte_of_char c k e to _ refl)))

-- escaping character by character equals escaping byte by byte
abbrev pub escaped_chars : List ℕ → List ℕ
escaped_chars = flat_map (λ c. escaped (encode_utf8 c))

of_chars : (cs : List ℕ) → escaped_chars cs ≡ escaped (encode_utf8_all cs)
of_chars [] = refl
of_chars (c ∷ cs) = ap (λ t. escaped (encode_utf8 c) ++ t) (of_chars cs) ∙ sym (flat_map-append escaped_byte (encode_utf8 c) (encode_utf8_all cs))

pub all_chars : (text cs : List ℕ) → IsUtf8 text → map (λ (c : ℕ). c) cs ≡ chars text → escaped_chars cs ≡ escaped text
all_chars text cs u all =
    sym (flat_map-map (λ c. escaped (encode_utf8 c)) (λ c. c) cs) ∙ ap escaped_chars all ∙ of_chars (chars text) ∙ ap escaped (encodes-chars text u)
