-- A name is UTF-8.
use Rattle.std.proofs.Common.{◌≡◌, ℕ, ◌<◌, ◌^◌, ◌++◌, Bool, true, false, not, eqb, ne_eqb, List, [], ◌∷◌, Some, refl, sym, ap, ◌∙◌, arith, inl, inr}
use Rattle.std.specs.List.{list_all}
use Rattle.std.specs.Char.{is_ascii_alphabetic, is_ascii_alphanumeric, is_ascii_digit}
use Rattle.std.specs.Fmt.{decimal}
use Rattle.std.proofs.lemmas.Fmt.{digits_decimal}
use Rattle.texts.proofs.FieldNumbers.{own}
use Rattle.std.specs.Str.{IsAscii, IsUtf8}
use Rattle.std.proofs.lemmas.Bool.{and_parts, and_from, cases_eq, false≢true}
use Rattle.std.proofs.lemmas.Bool.Decides.{nat_tests}
use Rattle.std.proofs.lemmas.Str.{IsUtf8-from_ascii}
use Rattle.std.proofs.lemmas.Str.Ascii.{IsAscii-nil, IsAscii-cons}
use Rattle.texts.specs.Fields.{is_name, named}
use Rattle.texts.proofs.FieldCuts.{without}
use Rattle.std.proofs.lemmas.Option.{cond_some}

small : (b : ℕ) → is_ascii_alphanumeric b ≡ true → b < 128
small b e = grind (arith, nat_tests)

letter_small : (b : ℕ) → is_ascii_alphabetic b ≡ true → b < 128
letter_small b e = grind (arith, nat_tests)

others_ascii : (bytes : List ℕ) → list_all is_ascii_alphanumeric bytes ≡ true → IsAscii bytes
others_ascii [] e = IsAscii-nil
others_ascii (b ∷ bytes) e =
    let p = and_parts _ _ e in
    IsAscii-cons b bytes (small b p.0) (others_ascii bytes p.1)

pub name_is_text : (bytes : List ℕ) → is_name bytes ≡ true → IsUtf8 bytes
name_is_text [] e = IsUtf8-from_ascii [] IsAscii-nil
name_is_text (b ∷ bytes) e =
    let p = and_parts _ _ e in
    IsUtf8-from_ascii (b ∷ bytes) (IsAscii-cons b bytes (letter_small b p.0) (others_ascii bytes p.1))

-- a byte that occurs in no name
abbrev pub IsApart : ℕ → Type 0
IsApart stop = is_ascii_alphanumeric stop ≡ false

apart : (stop b : ℕ) → IsApart stop → is_ascii_alphanumeric b ≡ true → not (eqb b stop) ≡ true
apart stop b h e =
    elim (cases_eq b stop) [
      | inl same ↦ absurd (false≢true (sym h ∙ rw same at e))
      | inr differs ↦ rw (ne_eqb b stop differs) refl
    ]

letter_is : (b : ℕ) → is_ascii_alphabetic b ≡ true → is_ascii_alphanumeric b ≡ true
letter_is b e = grind (arith, nat_tests)

others_without : (stop : ℕ) (bytes : List ℕ) → IsApart stop → list_all is_ascii_alphanumeric bytes ≡ true → without stop bytes ≡ true
others_without stop [] h e = refl
others_without stop (b ∷ bytes) h e =
    let p = and_parts _ _ e in
    and_from _ _ (apart stop b h p.0) (others_without stop bytes h p.1)

-- a name has no such byte
pub name_without : (stop : ℕ) (bytes : List ℕ) → IsApart stop → is_name bytes ≡ true → without stop bytes ≡ true
name_without stop [] h e = refl
name_without stop (b ∷ bytes) h e =
    let p = and_parts _ _ e in
    and_from _ _ (apart stop b h (letter_is b p.0)) (others_without stop bytes h p.1)

pub named_takes : (bytes name : List ℕ) → named bytes ≡ Some name → (bytes ≡ name) × (is_name name ≡ true)
named_takes bytes name e =
    let p = cond_some _ _ _ e in
    (p.1, rw (← p.1) p.0)

pub named_again : (name : List ℕ) → is_name name ≡ true → named name ≡ Some name
named_again name e = rw e refl

pub without_from_all : (p : ℕ → Bool) (stop : ℕ) (bytes : List ℕ) → p stop ≡ false → list_all p bytes ≡ true → without stop bytes ≡ true
without_from_all p stop [] h e = refl
without_from_all p stop (b ∷ bytes) h e =
    let q = and_parts (p b) (list_all p bytes) e in
    let passes : p b ≡ true = q.0 in
    let differs : b ≡ stop → ⊥ = λ same. false≢true (sym h ∙ ap p (sym same) ∙ passes) in
    let first : not (eqb b stop) ≡ true = rw (ne_eqb b stop differs) refl in
    and_from _ _ first (without_from_all p stop bytes h q.1)

pub decimal_without : (stop n : ℕ) → is_ascii_digit stop ≡ false → n < 2 ^ 64 → without stop (decimal n) ≡ true
decimal_without stop n h lt = without_from_all is_ascii_digit stop (decimal n) h (digits_decimal own n lt)

pub without-append : (stop : ℕ) (xs ys : List ℕ) → without stop xs ≡ true → without stop ys ≡ true → without stop (xs ++ ys) ≡ true
without-append stop [] ys p q = q
without-append stop (x ∷ xs) ys p q =
    let h = and_parts _ _ p in
    and_from _ _ h.0 (without-append stop xs ys h.1 q)
