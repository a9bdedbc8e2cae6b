-- At each offset of a text a blank, comment or token begins, or there is a reason why none does. So each text has an outcome.
use Rattle.std.proofs.Common.{◌≡◌, ℕ, zero, suc, ◌+◌, ◌-◌, ◌≤◌, ◌<◌, Bool, true, false, cond, eqb, List, [], ◌∷◌, ◌++◌, length, drop, Option, Some, None, Result, Ok, Err, refl, sym, ap, subst, ◌∙◌, inl, inr, length-drop, length-append, arith}
use Rattle.std.specs.Prelude.{IfSome}
use Rattle.std.specs.List.{prefix_len}
use Rattle.std.specs.Char.{is_ascii_alphabetic, is_ascii_alphanumeric, is_ascii_digit}
use Rattle.std.proofs.lemmas.Bool.{cases_Bool, cases_lt, cond_both, eqb-false}
use Rattle.std.proofs.lemmas.Grind.{common_steps}
use Rattle.std.proofs.lemmas.List.Folds.{length-prefix_len}
use Rattle.std.proofs.lemmas.List.Sums.{prefix_len-le-length}
use Rattle.ob_scan.specs.declared.fault.ScanFault.{ScanFault}
use Rattle.ob_scan.specs.declared.fault.ScanFault.TheVariants as faults
use Rattle.ob_scan.specs.declared.kind.Kind.{Kind}
use Rattle.ob_scan.specs.declared.kind.Kind.TheVariants as kinds
use Rattle.ob_scan.specs.declared.token.Token.{Token}
use Rattle.ob_scan.specs.Comments.{begins_comment, Closes, closed, nested, other}
use Rattle.ob_scan.specs.Numbers.{first_passes, begins_digit, is_hex_digit, digit_count, hex_digit_count, begins_with_byte, sign_len, scale_of, with_scale, fraction_of, decimal_of, number_token}
use Rattle.ob_scan.specs.Lexemes.{after_comment, string_len, delimiter_of}
use Rattle.ob_scan.specs.Spelling.{begins_blank, begins_quote, IsGap, blank, comment, Scanned, start, gap, token, IsBadByte, IsBadNumber, IsOpenString, IsOpenComment, IsOutcome}
use Rattle.ob_scan.specs.Tokens.{IsToken, number, longest}
use Rattle.ob_scan.proofs.Closings.{closes_from, closes_none, comment_long}
use Rattle.ob_scan.proofs.CommentBrackets.{drop-drop}
use Rattle.ob_scan.proofs.Names.{name_token}
use Rattle.ob_scan.proofs.Places.{token_some}
use Rattle.ob_scan.proofs.Signs.{IsPlain, delimiter_token, delimiter_none}
use Rattle.ob_scan.proofs.Strings.{string_token, string_open}

-- a number is no longer than the bytes
abbrev IsWithin : List ℕ → Option (Kind × ℕ) → Type 0
IsWithin bs o = IfSome o (λ x. x.1 ≤ length bs)

next_some : (c : ℕ) (bs : List ℕ) → begins_with_byte c bs ≡ true → 0 < length bs
next_some c [] e = absurd cc
next_some c (b ∷ bs) e = omega arith

run_within : (p : ℕ → Bool) (at : ℕ) (bs : List ℕ) → prefix_len p (drop at bs) ≤ length bs - at
run_within p at bs = omega (arith, prefix_len-le-length p (drop at bs), length-drop at bs)

digits_within : (at : ℕ) (bs : List ℕ) → digit_count (drop at bs) ≤ length bs - at
digits_within at bs = omega (arith, run_within is_ascii_digit at bs, length-prefix_len is_ascii_digit (drop at bs))

hex_within : (bs : List ℕ) → hex_digit_count bs ≤ length bs
hex_within bs = omega (arith, prefix_len-le-length is_hex_digit bs, length-prefix_len is_hex_digit bs)

scale_within : (n : ℕ) (bs : List ℕ) → n ≤ length bs → IsWithin bs (with_scale n (scale_of (drop n bs)))
scale_within n bs h =
    let t = drop n bs in
    let s = 1 + sign_len (drop 1 t) in
    go s (digit_count (drop s t)) (digits_within s t)
  where
    go : (s d : ℕ) → d ≤ length (drop n bs) - s → IsWithin bs (with_scale n (cond (eqb d 0) None (Some (s + d))))
    go s d le =
        cond_both (eqb d 0) None (Some (s + d)) (λ o. IsWithin bs (with_scale n o)) (λ e. tt)
        (λ e. let some : d ≡ 0 → ⊥ = eqb-false d 0 e in
        let long = length-drop n bs in
        omega arith)

fraction_within : (n : ℕ) (bs : List ℕ) → n ≤ length bs → IsWithin bs (fraction_of n bs)
fraction_within n bs h = cond_both (begins_with_byte 69 (drop n bs)) _ _ (IsWithin bs) (λ e. scale_within n bs h) (λ e. h)

decimal_within : (n : ℕ) (bs : List ℕ) → n ≤ length bs → IsWithin bs (decimal_of n bs)
decimal_within n bs h =
    cond_both (begins_with_byte 46 (drop n bs)) _ _ (IsWithin bs)
    (λ e. let some = next_some 46 (drop n bs) e in
    let long = length-drop n bs in
    let more = digits_within (n + 1) bs in
    cond_both (begins_with_byte 46 (drop (n + 1) bs)) _ _ (IsWithin bs) (λ f. h) (λ f. fraction_within (n + 1 + digit_count (drop (n + 1) bs)) bs (omega arith))) (λ e. h)

number_within : (bs : List ℕ) → IsWithin bs (number_token bs)
number_within bs =
    let n = hex_digit_count bs in
    let h : n ≤ length bs = hex_within bs in
    let long = length-drop n bs in
    cond_both (begins_with_byte 72 (drop n bs)) _ _ (IsWithin bs) (λ e. let some = next_some 72 (drop n bs) e in omega arith)
    (λ e. cond_both (begins_with_byte 88 (drop n bs)) _ _ (IsWithin bs) (λ f. let some = next_some 88 (drop n bs) f in omega arith)
    (λ f. cond_both (eqb (digit_count bs) n) _ _ (IsWithin bs) (λ g. decimal_within n bs h) (λ g. tt)))

token_within : {k : Kind} {n : ℕ} {bs : List ℕ} → IsToken k n bs → n ≤ length bs
token_within {k} {n} {bs} (number d e) = subst (IsWithin bs) e (number_within bs)
token_within {k} {n} {bs} (longest {text = text} c x s l h) =
    let whole : length bs ≡ length text + length s.rest = ap length s.front ∙ length-append text s.rest in
    omega arith

-- the bytes after a comment are a suffix of the bytes
record IsRest (bs rest : List ℕ) : Type 0 where
  count : ℕ
  within : count ≤ length bs
  is : drop count bs ≡ rest

rest_of : {bs rest : List ℕ} → Closes bs rest → IsRest bs rest
rest_of {bs} {rest} (closed e) = record { count = 2; within = rw e (omega arith); is = rw e refl }
rest_of {bs} {rest} (nested {inner = inner} {after = after} e c d) =
    let p = rest_of c in
    let q = rest_of d in
    let long = length-drop p.count inner in
    let same = ap length p.is in
    record { count = 2 + (p.count + q.count); within = rw e (omega (arith, p.within, q.within)); is = rw e (both inner after rest p.count q.count p.is q.is) }
  where
    both : (inner after rest : List ℕ) (m n : ℕ) → drop m inner ≡ after → drop n after ≡ rest → drop (2 + (m + n)) (40 ∷ 42 ∷ inner) ≡ rest
    both inner after rest m n e f = grind (arith, common_steps)
rest_of {bs} {rest} (other {after = after} {b = b} e unmarked c) =
    let p = rest_of c in
    record { count = 1 + p.count; within = rw e (omega (arith, p.within)); is = rw e (more b after rest p.count p.is) }
  where
    more : (b : ℕ) (after rest : List ℕ) (m : ℕ) → drop m after ≡ rest → drop (1 + m) (b ∷ after) ≡ rest
    more b after rest m e = grind (arith, common_steps)

-- what comes next
data Next (bs : List ℕ) : Type 0 where
  skips : (n : ℕ) → IsGap n bs → 0 < n → n ≤ length bs → Next bs
  takes : (k : Kind) (n : ℕ) → IsToken k n bs → Next bs
  bad_byte : IsBadByte bs → Next bs
  bad_number : IsBadNumber bs → Next bs
  open_string : IsOpenString bs → Next bs
  open_comment : IsOpenComment bs → Next bs

next_comment : (bs : List ℕ) → begins_comment bs ≡ true → Next bs
next_comment bs e = go (after_comment 1 (drop 2 bs)) refl
  where
    go : (o : Option (List ℕ)) → after_comment 1 (drop 2 bs) ≡ o → Next bs
    go None f = open_comment (record { opens = e; no_end = closes_none (drop 2 bs) f })
    go (Some rest) f =
        let c = closes_from (drop 2 bs) rest f in
        let r = rest_of c in
        let long = comment_long bs e in
        let len = length-drop 2 bs in
        let le : 2 + r.count ≤ length bs = omega (arith, r.within) in
        skips (2 + r.count) (comment e le (subst (λ x. Closes (drop 2 bs) x) (sym r.is ∙ drop-drop 2 r.count bs) c)) (omega arith) le

next_number : (bs : List ℕ) → begins_digit bs ≡ true → Next bs
next_number bs d = go (number_token bs) refl
  where
    go : (o : Option (Kind × ℕ)) → number_token bs ≡ o → Next bs
    go None e = bad_number (record { digit = d; no_number = e })
    go (Some (k, n)) e = takes k n (number d e)

next_string : (bs : List ℕ) → begins_quote bs ≡ true → Next bs
next_string bs q = go (string_len bs) refl
  where
    go : (o : Option ℕ) → string_len bs ≡ o → Next bs
    go None e = open_string (record { quote = q; no_other = string_open bs q e })
    go (Some n) e = takes kinds.Text n (string_token bs n q e).0

next_sign : (bs : List ℕ) → 0 < length bs → begins_blank bs ≡ false → IsPlain bs → Next bs
next_sign bs h b p = go (delimiter_of bs) refl
  where
    go : (o : Option (Kind × ℕ)) → delimiter_of bs ≡ o → Next bs
    go None e = bad_byte (record { some = h; no_blank = b; no_comment = p.comment; no_digit = p.digit; no_quote = p.quote; no_text = delimiter_none bs h p e })
    go (Some (k, n)) e = takes k n (delimiter_token bs k n p e).token

next_of : (bs : List ℕ) → 0 < length bs → Next bs
next_of bs h =
    elim (cases_Bool (begins_blank bs)) [
      | inl e ↦ skips 1 (blank e) (omega arith) h
      | inr b ↦
          elim (cases_Bool (first_passes is_ascii_alphabetic bs)) [
            | inl e ↦ takes _ _ (name_token bs (prefix_len is_ascii_alphanumeric bs) e refl)
            | inr l ↦
                elim (cases_Bool (begins_comment bs)) [
                  | inl e ↦ next_comment bs e
                  | inr c ↦
                      elim (cases_Bool (begins_digit bs)) [
                        | inl e ↦ next_number bs e
                        | inr d ↦
                            elim (cases_Bool (begins_quote bs)) [
                              | inl e ↦ next_string bs e
                              | inr q ↦ next_sign bs h b (record { digit = d; letter = l; quote = q; comment = c })
                            ]
                      ]
                ]
          ]
    ]

record HasOutcome (bytes : List ℕ) : Type 0 where
  outcome : Result (List Token) ScanFault
  is : IsOutcome bytes outcome

module _ (bytes : List ℕ) (short : length bytes ≤ 16777216) where
  go_on : (fuel : ℕ) (ts : List Token) (at : ℕ) → Scanned bytes ts at → at ≤ length bytes → length bytes - at < fuel → HasOutcome bytes
  go_on zero ts at s le lt = absurd (omega arith)
  go_on (suc fuel) ts at s le lt =
      elim (cases_lt at (length bytes)) [
        | inl more ↦
            let long = length-drop at bytes in
            elim (next_of (drop at bytes) (omega arith)) [
              | skips n g some within ↦ go_on fuel ts (at + n) (gap s g) (omega arith) (omega arith)
              | takes k n t ↦
                  let some = token_some t in
                  let within = token_within t in
                  go_on fuel (ts ++ record { kind = k; start = at; end = at + n } ∷ []) (at + n) (token s t) (omega arith) (omega arith)
              | bad_byte w ↦ record { outcome = Err (faults.BadByte at); is = (short, record { before = ts; scanned = s; reason = w }) }
              | bad_number w ↦ record { outcome = Err (faults.BadNumber at); is = (short, record { before = ts; scanned = s; reason = w }) }
              | open_string w ↦ record { outcome = Err (faults.OpenString at); is = (short, record { before = ts; scanned = s; reason = w }) }
              | open_comment w ↦ record { outcome = Err (faults.OpenComment at); is = (short, record { before = ts; scanned = s; reason = w }) }
            ]
        | inr end ↦
            let same : at ≡ length bytes = omega arith in
            record { outcome = Ok ts; is = (short, subst (Scanned bytes ts) same s) }
      ]

pub outcome_exists : (bytes : List ℕ) → (o : Result (List Token) ScanFault) × IsOutcome bytes o
outcome_exists bytes =
    elim (cases_lt 16777216 (length bytes)) [
      | inl long ↦ (Err faults.TooLong, long)
      | inr short ↦ let h = go_on bytes short (suc (length bytes)) [] 0 start (omega arith) (omega arith) in (h.outcome, h.is)
    ]
