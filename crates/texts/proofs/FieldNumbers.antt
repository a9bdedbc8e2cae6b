-- The number that is read from decimal digits is the number that was written.
use Rattle.std.proofs.Common.{◌≡◌, ℕ, zero, suc, ◌+◌, ◌-◌, ◌*◌, ◌^◌, ◌<◌, ◌≤◌, Bool, true, false, eqb, List, ◌&&◌, ◌||◌, not, length, take, get_or, Some, None, Result, Ok, Err, refl, sym, ap, ◌∙◌, arith, rules, inl, inr, drop, ◌∷◌, ◌++◌}
use Rattle.std.specs.Result.{result_ok}
use Rattle.std.specs.List.{list_all}
use Rattle.std.specs.Str.{IsUtf8}
use Rattle.std.specs.Str.Parse.{digits_value, ParsesUnsigned}
use Rattle.std.specs.Char.{is_ascii_digit}
use Rattle.std.specs.Int.{IsInRange}
use Rattle.std.specs.Fmt.{decimal}
use Rattle.std.proofs.Math.Seq.{split_at}
use Rattle.std.proofs.lemmas.List.{get_or-take, length-take-le, take_all}
use Rattle.std.proofs.lemmas.List.Folds.{list_all_more}
use Rattle.std.proofs.lemmas.Int.Digits.{digits_value_more}
use Rattle.std.proofs.lemmas.Str.{digit_value_digit}
use Rattle.std.proofs.lemmas.Bool.{and_parts, and_from, cases_lt, ltb-true, lt-ltb, le-ltb}
use Rattle.std.proofs.lemmas.Bool.Decides.{nat_tests}
use Rattle.std.proofs.lemmas.Option.{cond_some}
use Rattle.std.proofs.lemmas.Str.{IsUtf8-from_ascii}
use Rattle.std.proofs.lemmas.Str.Parse.{IsNumeralModel, digits_value-take-le, numerals_by_value, parse_digits}
use Rattle.std.proofs.lemmas.Fmt.{IsAscii-from_digits, decimal-digits_value, digits_decimal, digits_value-decimal, decimal_digit, decimal_nonempty, first_decimal}
use Rattle.texts.specs.Fields.{decimal_u64, is_canonical_number, number_of}

pub own : IsNumeralModel (λ ds. list_all is_ascii_digit ds ≡ true) (digits_value 10)
own = numerals_by_value _ (search rules)

digit_range : (c : ℕ) → is_ascii_digit c ≡ true → IsInRange 48 57 c
digit_range c e = grind (arith, nat_tests)

and_false : (b : Bool) → (b && false) ≡ false
and_false true = refl
and_false false = refl

-- only the text of one digit may begin with a zero
lead : (first len : ℕ) → (not (eqb first 48) || eqb len 1) ≡ true → first ≡ 48 → len ≡ 1
lead first len e z = grind (arith, nat_tests)

pub number_is_text : (bs : List ℕ) → is_canonical_number bs ≡ true → IsUtf8 bs
number_is_text bs plain = IsUtf8-from_ascii bs (IsAscii-from_digits bs (own.to bs (and_parts _ _ plain).0))

pub number_read : {E : Type 0} (bs : List ℕ) (r : Result ℕ E) → is_canonical_number bs ≡ true → ParsesUnsigned 64 10 bs r → result_ok r ≡ number_of bs
unfolding number_of
number_read {E} bs (Ok x) plain h =
    let p = parse_digits own {E = E} 64 bs (Ok x) h (and_parts _ _ plain).0 in
    rw (plain, lt-ltb _ _ p.0.1) (ap Some p.1)
number_read {E} bs (Err e) plain h =
    let p = parse_digits own {E = E} 64 bs (Err e) h (and_parts _ _ plain).0 in
    let some : 0 < length bs = ltb-true _ _ (and_parts _ _ (and_parts _ _ plain).1).0 in
    elim (cases_lt (digits_value 10 bs) (2 ^ 64)) [
      | inl lt ↦ absurd (p (some, lt))
      | inr le ↦ rw (plain, le-ltb _ _ le) refl
    ]

-- one more digit is read
module _ (bytes : List ℕ) (i : ℕ) (in_bytes : i < length bytes) (so_far : list_all is_ascii_digit (take i bytes) ≡ true) (digit : is_ascii_digit (get_or bytes i 0) ≡ true) where
  pub digits_still : list_all is_ascii_digit (take (i + 1) bytes) ≡ true
  digits_still = list_all_more is_ascii_digit bytes i 0 in_bytes ∙ and_from _ _ so_far digit

  pub value_now : digits_value 10 (take (i + 1) bytes) ≡ digits_value 10 (take i bytes) * 10 + (get_or bytes i 0 - 48)
  value_now =
      let value = digits_value_more 10 bytes i in_bytes in
      let is = digit_value_digit (get_or bytes i 0) (digit_range (get_or bytes i 0) digit) in
      omega arith

  -- a number above 64 bits stays above 64 bits with further digits
  pub too_much : 2 ^ 64 ≤ digits_value 10 (take (i + 1) bytes) → decimal_u64 bytes ≡ None
  unfolding decimal_u64
  too_much more =
      let within = digits_value-take-le 10 bytes (i + 1) (omega arith) in
      rw (le-ltb (digits_value 10 bytes) (2 ^ 64) (omega arith), and_false (list_all is_ascii_digit bytes)) refl

pub digits_end : (bytes : List ℕ) (i value : ℕ) → length bytes ≤ i → list_all is_ascii_digit (take i bytes) ≡ true → value ≡ digits_value 10 (take i bytes) → value < 2 ^ 64 → Some value ≡ decimal_u64 bytes
unfolding decimal_u64
digits_end bytes i value past digits is fits =
    let whole : take i bytes ≡ bytes = take_all i bytes past in
    let all : list_all is_ascii_digit bytes ≡ true = ap (list_all is_ascii_digit) (sym whole) ∙ digits in
    let same : value ≡ digits_value 10 bytes = is ∙ ap (digits_value 10) whole in
    rw (all, lt-ltb (digits_value 10 bytes) (2 ^ 64) (omega arith)) (ap Some same)

pub number_takes : (text : List ℕ) (n : ℕ) → number_of text ≡ Some n → (text ≡ decimal n) × (n < 2 ^ 64)
unfolding number_of
number_takes text n e =
    let p = cond_some _ _ _ e in
    let q = and_parts _ _ p.0 in
    let plain = and_parts _ _ q.0 in
    let rest = and_parts _ _ plain.1 in
    let lt : digits_value 10 text < 2 ^ 64 = ltb-true _ _ q.1 in
    let same = decimal-digits_value own text plain.0 (ltb-true _ _ rest.0) (lead _ _ rest.1) lt in
    (rw (← p.1) (sym same), rw (← p.1) lt)

beyond : (first len : ℕ) → 48 < first → (not (eqb first 48) || eqb len 1) ≡ true
beyond first len lt = grind (arith, nat_tests)

leads : (n : ℕ) → n < 2 ^ 64 → (not (eqb (get_or (decimal n) 0 0) 48) || eqb (length (decimal n)) 1) ≡ true
leads zero lt = rw (decimal_digit 0 (omega arith)) refl
leads (suc n) lt = beyond _ _ (first_decimal (suc n) (omega arith) lt)

pub number_again : (n : ℕ) → n < 2 ^ 64 → number_of (decimal n) ≡ Some n
unfolding number_of
number_again n lt =
    let v = digits_value-decimal own n lt in
    let ok : is_canonical_number (decimal n) ≡ true =
    and_from _ _ (digits_decimal own n lt) (and_from _ _ (lt-ltb _ _ (decimal_nonempty n lt)) (leads n lt)) in
    rw (ok, v, lt-ltb n (2 ^ 64) lt) refl

-- digits before a line end are a number, if they have no leading zero
pub number_stands : (text : List ℕ) (end value : ℕ) → end < length text → get_or text end 0 ≡ 10 → list_all is_ascii_digit (take end text) ≡ true → value ≡ digits_value 10 (take end text) → value < 2 ^ 64
    → 0 < end → (get_or text 0 0 ≡ 48 → end ≡ 1) → text ≡ decimal value ++ 10 ∷ drop (end + 1) text
number_stands text end value within ends digits is fits some lead =
    let long : length (take end text) ≡ end = length-take-le end text (omega arith) in
    let first : get_or (take end text) 0 0 ≡ get_or text 0 0 = get_or-take end text 0 0 some in
    let written = decimal-digits_value own (take end text) digits (omega arith) (λ z. long ∙ lead (sym first ∙ z)) (omega arith) in
    let next : suc end ≡ end + 1 = omega arith in
    split_at text end 0 within ∙ ap (λ (b : ℕ). take end text ++ b ∷ drop (suc end) text) ends ∙ ap (λ (n : ℕ). take end text ++ 10 ∷ drop n text) next
    ∙ ap (λ (v : List ℕ). v ++ 10 ∷ drop (end + 1) text) (sym written ∙ ap decimal (sym is))
