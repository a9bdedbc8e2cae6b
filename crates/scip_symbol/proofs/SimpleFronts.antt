-- The prefix of identifier characters of a string.
use Rattle.std.proofs.Common.{◌≡◌, ℕ, suc, ◌+◌, ◌<◌, true, List, [], ◌∷◌, take, drop, refl, ap, arith, inl, inr}
use Rattle.std.specs.List.{prefix_len}
use Rattle.std.specs.Str.{IsUtf8, IsAscii, IsCharBoundary}
use Rattle.std.proofs.lemmas.Bool.{cases_Bool, and_parts}
use Rattle.std.proofs.lemmas.Bool.Decides.{nat_tests}
use Rattle.std.proofs.lemmas.List.Sums.{prefix_len-le-length}
use Rattle.std.proofs.lemmas.Str.{IsUtf8-from_ascii, IsCharBoundary-from_take}
use Rattle.std.proofs.lemmas.Str.Ascii.{IsAscii-nil, IsAscii-cons}
use Rattle.scip_symbol.specs.SymbolTexts.{is_simple, are_simple}
use Rattle.texts.specs.Fields.{with_first}
use Rattle.scip_symbol.specs.Reading.{simple_prefix}

pub front_split : (text : List ℕ) → (take (prefix_len is_simple text) text, drop (prefix_len is_simple text) text) ≡ simple_prefix text
unfolding simple_prefix
front_split [] = refl
front_split (b ∷ text) =
    let e : 1 + prefix_len is_simple text ≡ suc (prefix_len is_simple text) = omega arith in
    elim (cases_Bool (is_simple b)) [
      | inl yes_simple ↦ rw (yes_simple, e) (ap (with_first b) (front_split text))
      | inr not_simple ↦ rw not_simple refl
    ]

pub simple_ascii : (b : ℕ) → is_simple b ≡ true → b < 128
simple_ascii b e = grind (arith, nat_tests)

pub simple_text_ascii : (bytes : List ℕ) → are_simple bytes ≡ true → IsAscii bytes
simple_text_ascii [] e = IsAscii-nil
simple_text_ascii (b ∷ bytes) e = let p = and_parts _ _ e in IsAscii-cons b bytes (simple_ascii b p.0) (simple_text_ascii bytes p.1)

pub take_simple : (text : List ℕ) → are_simple (take (prefix_len is_simple text) text) ≡ true
take_simple [] = refl
take_simple (b ∷ text) =
    let e : 1 + prefix_len is_simple text ≡ suc (prefix_len is_simple text) = omega arith in
    elim (cases_Bool (is_simple b)) [
      | inl yes_simple ↦ rw (yes_simple, e, yes_simple) (take_simple text)
      | inr not_simple ↦ rw not_simple refl
    ]

-- the string may be split after this prefix
pub front_boundary : (text : List ℕ) → IsUtf8 text → IsCharBoundary text (prefix_len is_simple text)
front_boundary text u =
    IsCharBoundary-from_take text (prefix_len is_simple text) u (prefix_len-le-length is_simple text) (IsUtf8-from_ascii (take (prefix_len is_simple text) text) (simple_text_ascii (take (prefix_len is_simple text) text) (take_simple text)))
