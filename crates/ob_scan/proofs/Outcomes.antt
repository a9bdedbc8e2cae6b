-- A text has one outcome.
use Rattle.std.proofs.Common.{◌≡◌, ℕ, ◌+◌, ◌≤◌, ◌<◌, ◌⊎◌, Bool, true, false, cond, eqb, List, [], ◌∷◌, ◌++◌, length, drop, Option, Some, None, Result, Ok, Err, refl, sym, subst, ◌∙◌, append_assoc, inl, inr, arith}
use Rattle.std.specs.Char.{is_ascii_alphabetic, is_ascii_digit}
use Rattle.std.proofs.Math.Seq.{drop-length}
use Rattle.std.proofs.lemmas.Bool.{false≢true, false_from_ne_true, cases_lt}
use Rattle.std.proofs.lemmas.List.{append-nil}
use Rattle.ob_scan.specs.declared.kind.Kind.{Kind}
use Rattle.ob_scan.specs.declared.token.Token.{Token}
use Rattle.ob_scan.specs.declared.fault.ScanFault.{ScanFault}
use Rattle.ob_scan.specs.declared.fault.ScanFault.TheVariants as faults
use Rattle.ob_scan.specs.Comments.{begins_comment}
use Rattle.ob_scan.specs.Faults.{HasOutcome}
use Rattle.ob_scan.specs.Numbers.{first_passes, begins_digit}
use Rattle.ob_scan.specs.Spelling.{begins_quote, IsGap, blank, comment, Scanned, start, gap, token, Spells, IsBadByte, IsBadNumber, IsOpenString, IsOpenComment, IsWithinLimit, IsOutcome}
use Rattle.ob_scan.specs.Tokens.{IsToken, number, longest}
use Rattle.ob_scan.proofs.OneToken.{one_token, one_gap, not_both}
use Rattle.ob_scan.proofs.Shapes.{begins_paren, shape_of, word, sign, string, begins_word, begins_sign, begins_string, apart, is_quote, is_blank, digit_blank, digit_paren, quote_digit, quote_blank, quote_paren, paren_blank}
use Rattle.ob_scan.proofs.Strings.{open_stands}
use Rattle.ob_scan.proofs.Texts.{is_sign_byte}

-- nothing begins at the first byte
record IsEnd (bs : List ℕ) : Type 0 where
  no_gap : (n : ℕ) → IsGap n bs → ⊥
  no_token : (k : Kind) (n : ℕ) → IsToken k n bs → ⊥

-- a sequence of blanks, comments and tokens from an offset on
data Way (bytes : List ℕ) : ℕ → List Token → ℕ → Type 0 where
  here : {at : ℕ} → Way bytes at [] at
  gap_on : {at n to : ℕ} {ts : List Token} → IsGap n (drop at bytes) → Way bytes (at + n) ts to → Way bytes at ts to
  token_on : {at n to : ℕ} {ts : List Token} {k : Kind} → IsToken k n (drop at bytes) → Way bytes (at + n) ts to → Way bytes at (record { kind = k; start = at; end = at + n } ∷ ts) to

way_from : {bytes : List ℕ} {at to : ℕ} {ts us : List Token} → Scanned bytes ts at → Way bytes at us to → Way bytes 0 (ts ++ us) to
way_from start w = w
way_from (gap s g) w = way_from s (gap_on g w)
way_from (token s t) w = rw append_assoc (way_from s (token_on t w))

way_of : {bytes : List ℕ} {at : ℕ} {ts : List Token} → Scanned bytes ts at → Way bytes 0 ts at
way_of {ts = ts} s = rw append-nil at (way_from s here)

record SameWay (ts us : List Token) (to end : ℕ) : Type 0 where
  tokens : ts ≡ us
  place : to ≡ end

one_way : {bytes : List ℕ} {at to end : ℕ} {ts us : List Token} → Way bytes at ts to → Way bytes at us end → IsEnd (drop to bytes) → IsEnd (drop end bytes) → SameWay ts us to end
one_way here here p q = record { tokens = refl; place = refl }
one_way here (gap_on g w) p q = absurd (p.no_gap _ g)
one_way here (token_on t w) p q = absurd (p.no_token _ _ t)
one_way (gap_on g w) here p q = absurd (q.no_gap _ g)
one_way (token_on t w) here p q = absurd (q.no_token _ _ t)
one_way {bytes} {at} {to} {end} {ts} {us} (gap_on {n = n} g w) (gap_on {n = m} h v) p q =
    one_way w (subst (λ x. Way bytes (at + x) us end) (one_gap h g) v) p q
one_way (gap_on g w) (token_on t v) p q = absurd (not_both g t)
one_way (token_on t w) (gap_on g v) p q = absurd (not_both g t)
one_way {bytes} {at} {to} {end} (token_on {n = n} {ts = ts} {k = k} t w) (token_on {n = m} {ts = us} {k = j} u v) p q =
    let same = one_token u t in
    let next = one_way w (subst (λ x. Way bytes (at + x) us end) same.len v) p q in
    record { tokens = rw (same.kind, same.len, next.tokens) refl; place = next.place }

-- why nothing begins
at_end : (bs : List ℕ) → bs ≡ [] → IsEnd bs
at_end bs is = record { no_gap = λ n g. gaps g is; no_token = λ k n t. tokens t is }
  where
    none : (p : ℕ → Bool) (bs : List ℕ) → bs ≡ [] → first_passes p bs ≡ true → ⊥
    none p [] e f = false≢true f
    none p (b ∷ bs) e f = absurd cc

    gaps : {n : ℕ} {bs : List ℕ} → IsGap n bs → bs ≡ [] → ⊥
    gaps {bs = bs} (blank f) e = none is_blank bs e f
    gaps {bs = bs} (comment f l c) e = none (λ b. eqb b 40) bs e (begins_paren bs f)

    tokens : {k : Kind} {n : ℕ} {bs : List ℕ} → IsToken k n bs → bs ≡ [] → ⊥
    tokens {bs = bs} (number d f) e = none is_ascii_digit bs e d
    tokens {bs = bs} (longest c x s l h) e =
        elim (shape_of s.is_text) [
          | word w ↦ none is_ascii_alphabetic bs e (begins_word s w)
          | sign w t ↦ none is_sign_byte bs e (begins_sign s w)
          | string inside k n t ↦ none is_quote bs e (begins_string inside s t)
        ]

bad_byte : {bs : List ℕ} → IsBadByte bs → IsEnd bs
bad_byte {bs} w = record { no_gap = λ n g. gaps g; no_token = λ k n t. tokens t }
  where
    gaps : {n : ℕ} → IsGap n bs → ⊥
    gaps (blank e) = false≢true (sym w.no_blank ∙ e)
    gaps (comment e l c) = false≢true (sym w.no_comment ∙ e)

    tokens : {k : Kind} {n : ℕ} → IsToken k n bs → ⊥
    tokens (number d e) = false≢true (sym w.no_digit ∙ d)
    tokens (longest c x s l h) = w.no_text _ _ s

bad_number : {bs : List ℕ} → IsBadNumber bs → IsEnd bs
bad_number {bs} w = record { no_gap = λ n g. gaps g; no_token = λ k n t. tokens t }
  where
    gaps : {n : ℕ} → IsGap n bs → ⊥
    gaps (blank e) = apart is_ascii_digit is_blank digit_blank bs w.digit e
    gaps (comment e l c) = apart is_ascii_digit (λ b. eqb b 40) digit_paren bs w.digit (begins_paren bs e)

    tokens : {k : Kind} {n : ℕ} → IsToken k n bs → ⊥
    tokens {k} {n} (number d e) = let f : ◌≡◌ {A = Option (Kind × ℕ)} None (Some (k, n)) = sym w.no_number ∙ e in absurd cc
    tokens (longest c x s l h) = false≢true (sym c ∙ w.digit)

open_string : {bs : List ℕ} → IsOpenString bs → IsEnd bs
open_string {bs} w = record { no_gap = λ n g. gaps g; no_token = λ k n t. tokens t }
  where
    gaps : {n : ℕ} → IsGap n bs → ⊥
    gaps (blank e) = apart is_quote is_blank quote_blank bs w.quote e
    gaps (comment e l c) = apart is_quote (λ b. eqb b 40) quote_paren bs w.quote (begins_paren bs e)

    tokens : {k : Kind} {n : ℕ} → IsToken k n bs → ⊥
    tokens (number d e) = apart is_quote is_ascii_digit quote_digit bs w.quote d
    tokens (longest c x s l h) = open_stands bs w.quote w.no_other _ _ s

open_comment : {bs : List ℕ} → IsOpenComment bs → IsEnd bs
open_comment {bs} w = record { no_gap = λ n g. gaps g; no_token = λ k n t. tokens t }
  where
    gaps : {n : ℕ} → IsGap n bs → ⊥
    gaps (blank e) = apart (λ b. eqb b 40) is_blank paren_blank bs (begins_paren bs w.opens) e
    gaps (comment e l c) = w.no_end _ c

    tokens : {k : Kind} {n : ℕ} → IsToken k n bs → ⊥
    tokens (number d e) = apart is_ascii_digit (λ b. eqb b 40) digit_paren bs d (begins_paren bs w.opens)
    tokens (longest c x s l h) = false≢true (sym x ∙ w.opens)

-- what the bytes at the end of the sequence imply for the text
stop_at : List ℕ → List Token → ℕ → Result (List Token) ScanFault
stop_at [] ts at = Ok ts
stop_at (b ∷ bs) ts at =
    cond (begins_digit (b ∷ bs)) (Err (faults.BadNumber at)) (cond (begins_quote (b ∷ bs)) (Err (faults.OpenString at)) (cond (begins_comment (b ∷ bs)) (Err (faults.OpenComment at)) (Err (faults.BadByte at))))

-- the outcome that the sequence ends in
record IsStop (bytes : List ℕ) (o : Result (List Token) ScanFault) : Type 0 where
  before : List Token
  at : ℕ
  scanned : Scanned bytes before at
  ended : IsEnd (drop at bytes)
  is : o ≡ stop_at (drop at bytes) before at

stops_at_byte : (bs : List ℕ) (ts : List Token) (at : ℕ) → IsBadByte bs → Err (faults.BadByte at) ≡ stop_at bs ts at
unfolding stop_at
stops_at_byte [] ts at w = absurd (omega (arith, w.some))
stops_at_byte (b ∷ bs) ts at w = rw (w.no_digit, w.no_quote, w.no_comment) refl

stops_at_number : (bs : List ℕ) (ts : List Token) (at : ℕ) → IsBadNumber bs → Err (faults.BadNumber at) ≡ stop_at bs ts at
unfolding stop_at
stops_at_number [] ts at w = absurd (false≢true w.digit)
stops_at_number (b ∷ bs) ts at w = rw w.digit refl

stops_at_string : (bs : List ℕ) (ts : List Token) (at : ℕ) → IsOpenString bs → Err (faults.OpenString at) ≡ stop_at bs ts at
unfolding stop_at
stops_at_string [] ts at w = absurd (false≢true w.quote)
stops_at_string (b ∷ bs) ts at w =
    let digit : begins_digit (b ∷ bs) ≡ false = false_from_ne_true _ (apart is_quote is_ascii_digit quote_digit (b ∷ bs) w.quote) in
    rw (digit, w.quote) refl

stops_at_comment : (bs : List ℕ) (ts : List Token) (at : ℕ) → IsOpenComment bs → Err (faults.OpenComment at) ≡ stop_at bs ts at
unfolding stop_at
stops_at_comment [] ts at w = absurd (false≢true w.opens)
stops_at_comment (b ∷ bs) ts at w =
    let paren = begins_paren (b ∷ bs) w.opens in
    let digit : begins_digit (b ∷ bs) ≡ false = false_from_ne_true _ (λ e. apart is_ascii_digit (λ x. eqb x 40) digit_paren (b ∷ bs) e paren) in
    let quote : begins_quote (b ∷ bs) ≡ false = false_from_ne_true _ (λ e. apart is_quote (λ x. eqb x 40) quote_paren (b ∷ bs) e paren) in
    rw (digit, quote, w.opens) refl

stop_of : (bytes : List ℕ) (o : Result (List Token) ScanFault) → IsWithinLimit bytes → IsOutcome bytes o → IsStop bytes o
unfolding stop_at
stop_of bytes (Ok ts) s h =
    let over : drop (length bytes) bytes ≡ [] = drop-length bytes in
    record { before = ts; at = length bytes; scanned = h.1; ended = at_end _ over; is = rw over refl }
stop_of bytes (Err (faults.BadByte at)) s h =
    record { before = h.1.before; at = at; scanned = h.1.scanned; ended = bad_byte h.1.reason; is = stops_at_byte (drop at bytes) h.1.before at h.1.reason }
stop_of bytes (Err (faults.BadNumber at)) s h =
    record { before = h.1.before; at = at; scanned = h.1.scanned; ended = bad_number h.1.reason; is = stops_at_number (drop at bytes) h.1.before at h.1.reason }
stop_of bytes (Err (faults.OpenString at)) s h =
    record { before = h.1.before; at = at; scanned = h.1.scanned; ended = open_string h.1.reason; is = stops_at_string (drop at bytes) h.1.before at h.1.reason }
stop_of bytes (Err (faults.OpenComment at)) s h =
    record { before = h.1.before; at = at; scanned = h.1.scanned; ended = open_comment h.1.reason; is = stops_at_comment (drop at bytes) h.1.before at h.1.reason }
stop_of bytes (Err faults.TooLong) s h = absurd (omega arith)
stop_of bytes (Err faults.Memory) s h = absurd h

stop_once : (bytes : List ℕ) (o p : Result (List Token) ScanFault) → IsStop bytes o → IsStop bytes p → o ≡ p
stop_once bytes o p s t =
    let same = one_way (way_of s.scanned) (way_of t.scanned) s.ended t.ended in
    s.is ∙ rw (same.tokens, same.place) refl ∙ sym t.is

pub outcome_once : (bytes : List ℕ) (o p : Result (List Token) ScanFault) → IsOutcome bytes o → IsOutcome bytes p → o ≡ p
outcome_once bytes o p h k = go o p h k (cases_lt 16777216 (length bytes))
  where
    long : (o : Result (List Token) ScanFault) → IsOutcome bytes o → 16777216 < length bytes → o ≡ Err faults.TooLong
    long (Ok ts) h lt = absurd (omega (arith, h.0))
    long (Err (faults.BadByte at)) h lt = absurd (omega (arith, h.0))
    long (Err (faults.BadNumber at)) h lt = absurd (omega (arith, h.0))
    long (Err (faults.OpenString at)) h lt = absurd (omega (arith, h.0))
    long (Err (faults.OpenComment at)) h lt = absurd (omega (arith, h.0))
    long (Err faults.TooLong) h lt = refl
    long (Err faults.Memory) h lt = absurd h

    go : (o p : Result (List Token) ScanFault) → IsOutcome bytes o → IsOutcome bytes p → (16777216 < length bytes) ⊎ (length bytes ≤ 16777216) → o ≡ p
    go o p h k (inl lt) = long o h lt ∙ sym (long p k lt)
    go o p h k (inr le) = stop_once bytes o p (stop_of bytes o le h) (stop_of bytes p le k)

pub spelled_once : (bytes : List ℕ) (ts us : List Token) → Spells bytes ts → Spells bytes us → ts ≡ us
spelled_once bytes ts us s t =
    let ended = at_end _ (drop-length bytes) in
    (one_way (way_of s) (way_of t) ended ended).tokens

-- a result is the outcome that the text has
pub only_outcome : (bytes : List ℕ) (r : Result (List Token) ScanFault) → HasOutcome r (IsOutcome bytes) → (o : Result (List Token) ScanFault) → IsOutcome bytes o → HasOutcome r (λ p. p ≡ o)
only_outcome bytes (Ok ts) h o k = outcome_once bytes (Ok ts) o h k
only_outcome bytes (Err (faults.BadByte at)) h o k = outcome_once bytes (Err (faults.BadByte at)) o h k
only_outcome bytes (Err (faults.BadNumber at)) h o k = outcome_once bytes (Err (faults.BadNumber at)) o h k
only_outcome bytes (Err (faults.OpenString at)) h o k = outcome_once bytes (Err (faults.OpenString at)) o h k
only_outcome bytes (Err (faults.OpenComment at)) h o k = outcome_once bytes (Err (faults.OpenComment at)) o h k
only_outcome bytes (Err faults.TooLong) h o k = outcome_once bytes (Err faults.TooLong) o h k
only_outcome bytes (Err faults.Memory) h o k = tt
