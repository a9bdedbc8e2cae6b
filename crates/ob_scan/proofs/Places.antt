-- The tokens of a text are in bounds, in order and disjoint.
use Rattle.std.proofs.Common.{◌≡◌, ℕ, ◌+◌, ◌≤◌, ◌<◌, Bool, true, false, cond, eqb, List, [], ◌∷◌, length, drop, Option, Some, None, subst, length-append, le_refl, arith}
use Rattle.std.specs.Prelude.{IfSome}
use Rattle.std.specs.List.{All, AllPairs}
use Rattle.std.proofs.lemmas.List.Elements.{All-nil, All-push, All-weaker}
use Rattle.std.proofs.lemmas.List.Quantifiers.{all_pairs_push}
use Rattle.ob_scan.specs.declared.kind.Kind.{Kind}
use Rattle.ob_scan.specs.declared.token.Token.{Token}
use Rattle.ob_scan.specs.Numbers.{begins_digit, digit_count, hex_digit_count, begins_with_byte, number_token, decimal_of, fraction_of, with_scale, scale_of}
use Rattle.ob_scan.specs.Spelling.{Scanned, start, gap, token, Spells, AreInText}
use Rattle.ob_scan.specs.Tokens.{IsToken, number, longest, is_name}
use Rattle.ob_scan.proofs.Numbers.{hex_digits_some}
use Rattle.ob_scan.proofs.Shapes.{shape_of, word, sign, string}
use Rattle.ob_scan.proofs.Texts.{is_sign}

-- a lower bound on the length of a number
abbrev IsLeast : ℕ → Option (Kind × ℕ) → Type 0
IsLeast n o = IfSome o (λ x. n ≤ x.1)

either : (n : ℕ) (b : Bool) (x y : Option (Kind × ℕ)) → IsLeast n x → IsLeast n y → IsLeast n (cond b x y)
either n true x y p q = p
either n false x y p q = q

scale_least : (n : ℕ) (o : Option ℕ) → IsLeast n (with_scale n o)
scale_least n None = tt
scale_least n (Some m) = omega arith

fraction_least : (n m : ℕ) (bs : List ℕ) → n ≤ m → IsLeast n (fraction_of m bs)
fraction_least n m bs h = either n (begins_with_byte 69 (drop m bs)) _ _ (weaker (with_scale m (scale_of (drop m bs))) (scale_least m (scale_of (drop m bs)))) h
  where
    weaker : (o : Option (Kind × ℕ)) → IsLeast m o → IsLeast n o
    weaker None p = tt
    weaker (Some x) p = omega arith

decimal_least : (n : ℕ) (bs : List ℕ) → IsLeast n (decimal_of n bs)
decimal_least n bs =
    either n (begins_with_byte 46 (drop n bs)) _ _ (either n (begins_with_byte 46 (drop (n + 1) bs)) _ _ (le_refl n) (fraction_least n (n + 1 + digit_count (drop (n + 1) bs)) bs (omega arith))) (le_refl n)

number_least : (bs : List ℕ) → IsLeast (hex_digit_count bs) (number_token bs)
number_least bs =
    let n = hex_digit_count bs in
    either n (begins_with_byte 72 (drop n bs)) _ _ (omega arith) (either n (begins_with_byte 88 (drop n bs)) _ _ (omega arith) (either n (eqb (digit_count bs) n) _ _ (decimal_least n bs) tt))

number_some : (bs : List ℕ) (k : Kind) (n : ℕ) → begins_digit bs ≡ true → number_token bs ≡ Some (k, n) → 0 < n
number_some bs k n d e =
    let least : hex_digit_count bs ≤ n = subst (IsLeast (hex_digit_count bs)) e (number_least bs) in
    omega (arith, hex_digits_some bs d)

word_some : (text : List ℕ) → is_name text ≡ true → 0 < length text
word_some [] e = absurd cc
word_some (b ∷ text) e = omega arith

sign_some : (text : List ℕ) → is_sign text ≡ true → 0 < length text
sign_some [] e = absurd cc
sign_some (b ∷ text) e = omega arith

pub token_some : {k : Kind} {n : ℕ} {bs : List ℕ} → IsToken k n bs → 0 < n
token_some {k} {n} {bs} (number d e) = number_some bs k n d e
token_some (longest {text = text} c x s l h) =
    elim (shape_of s.is_text) [
      | word w ↦ omega (arith, word_some text w)
      | sign w t ↦ omega (arith, sign_some text w)
      | string inside k m t ↦ let quoted : 0 < length text = rw t (omega arith) in omega arith
    ]

-- the tokens before an offset
record ArePlaced (ts : List Token) (at : ℕ) : Type 0 where
  some : All (λ t. t.start < t.end) ts
  within : All (λ t. t.end ≤ at) ts
  apart : AllPairs (λ t u. t.end ≤ u.start) ts
  few : length ts ≤ at

placed : {bytes : List ℕ} {ts : List Token} {at : ℕ} → Scanned bytes ts at → ArePlaced ts at
placed start = record { some = All-nil _; within = All-nil _; apart = λ i j d lt within. absurd (omega arith); few = omega arith }
placed (gap {ts = ts} {at = at} {n = n} s g) =
    let p = placed s in
    record { some = p.some; within = All-weaker (λ t. t.end ≤ at) (λ t. t.end ≤ at + n) (λ t h. omega arith) ts p.within; apart = p.apart; few = omega (arith, p.few) }
placed (token {ts = ts} {at = at} {n = n} {k = k} s t) =
    let p = placed s in
    let more = token_some t in
    let last : Token = record { kind = k; start = at; end = at + n } in
    record {
      some = All-push (λ t. t.start < t.end) ts last p.some (omega arith);
      within = All-push (λ t. t.end ≤ at + n) ts last (All-weaker (λ t. t.end ≤ at) (λ t. t.end ≤ at + n) (λ t h. omega arith) ts p.within) (le_refl (at + n));
      apart = all_pairs_push (λ t u. t.end ≤ u.start) ts last p.apart p.within;
      few = omega (arith, p.few, length-append ts (last ∷ []));
    }

pub spelled_in_text : (bytes : List ℕ) (ts : List Token) → Spells bytes ts → AreInText bytes ts
spelled_in_text bytes ts s = let p = placed s in record { some = p.some; within = p.within; apart = p.apart; few = p.few }
