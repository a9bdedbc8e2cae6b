-- The text of an identifier is a name.
use Rattle.std.proofs.Common.{◌≡◌, ℕ, ◌+◌, ◌-◌, Bool, true, false, cond, eqb, List, length, take, drop, Option, Some, None, subst, ap, ◌∙◌, sym, arith}
use Rattle.std.specs.Prelude.{IfSome}
use Rattle.std.specs.List.{All}
use Rattle.std.proofs.Math.Seq.{take-append_seam}
use Rattle.std.proofs.lemmas.List.Elements.{All-nil, All-push}
use Rattle.ob_scan.specs.declared.kind.Kind.{Kind}
use Rattle.ob_scan.specs.declared.kind.Kind.TheVariants as kinds
use Rattle.ob_scan.specs.declared.token.Token.{Token}
use Rattle.ob_scan.specs.Kinds.{text_of}
use Rattle.ob_scan.specs.Numbers.{digit_count, hex_digit_count, begins_with_byte, number_token, decimal_of, fraction_of, with_scale, scale_of}
use Rattle.ob_scan.specs.Spelling.{Scanned, start, gap, token, Spells}
use Rattle.ob_scan.specs.Texts.{bytes_of}
use Rattle.ob_scan.specs.Tokens.{IsText, fixed, name, quoted, IsToken, number, longest, is_name}

-- a token that begins with a digit is no identifier
abbrev IsOther : Option (Kind × ℕ) → Type 0
IsOther o = IfSome o (λ x. x.0 ≡ kinds.Ident → ⊥)

either : (b : Bool) (x y : Option (Kind × ℕ)) → IsOther x → IsOther y → IsOther (cond b x y)
either true x y p q = p
either false x y p q = q

scale_other : (n : ℕ) (o : Option ℕ) → IsOther (with_scale n o)
scale_other n None = tt
scale_other n (Some m) = λ e. absurd cc

fraction_other : (n : ℕ) (bs : List ℕ) → IsOther (fraction_of n bs)
fraction_other n bs = either (begins_with_byte 69 (drop n bs)) _ _ (scale_other n (scale_of (drop n bs))) (λ e. absurd cc)

decimal_other : (n : ℕ) (bs : List ℕ) → IsOther (decimal_of n bs)
decimal_other n bs =
    either (begins_with_byte 46 (drop n bs)) _ _ (either (begins_with_byte 46 (drop (n + 1) bs)) _ _ (λ e. absurd cc) (fraction_other (n + 1 + digit_count (drop (n + 1) bs)) bs)) (λ e. absurd cc)

number_other : (bs : List ℕ) → IsOther (number_token bs)
number_other bs =
    let n = hex_digit_count bs in
    either (begins_with_byte 72 (drop n bs)) _ _ (λ e. absurd cc) (either (begins_with_byte 88 (drop n bs)) _ _ (λ e. absurd cc) (either (eqb (digit_count bs) n) _ _ (decimal_other n bs) tt))

ident_text : {k : Kind} {text : List ℕ} → IsText k text → k ≡ kinds.Ident → is_name text ≡ true
ident_text {k} {text} (fixed e) is = let f : text_of kinds.Ident ≡ Some text = subst (λ (j : Kind). text_of j ≡ Some text) is e in absurd cc
ident_text (name n x) is = n
ident_text (quoted inside n w) is = absurd cc

ident_name : {k : Kind} {n : ℕ} {bs : List ℕ} → IsToken k n bs → k ≡ kinds.Ident → is_name (take n bs) ≡ true
ident_name {k} {n} {bs} (number d e) is =
    let other : IsOther (Some (k, n)) = subst IsOther e (number_other bs) in
    absurd (other is)
ident_name {n = n} {bs = bs} (longest {text = text} c x s l h) is =
    let same : take n bs ≡ text = ap (λ (m : ℕ). take m bs) (sym l) ∙ ap (take (length text)) s.front ∙ take-append_seam text s.rest in
    ap is_name same ∙ ident_text s.is_text is

-- the text of this token is a name if the token is an identifier
abbrev pub IsNamed : List ℕ → Token → Type 0
IsNamed bytes t = t.kind ≡ kinds.Ident → is_name (bytes_of bytes t) ≡ true

scanned_named : {bytes : List ℕ} {ts : List Token} {at : ℕ} → Scanned bytes ts at → All (IsNamed bytes) ts
scanned_named {bytes} start = All-nil (IsNamed bytes)
scanned_named (gap s g) = scanned_named s
scanned_named {bytes} (token {ts = ts} {at = at} {n = n} {k = k} s t) =
    let long : n ≡ at + n - at = omega arith in
    let here : IsNamed bytes (record { kind = k; start = at; end = at + n }) = λ is. ap (λ (m : ℕ). is_name (take m (drop at bytes))) (sym long) ∙ ident_name t is in
    All-push (IsNamed bytes) ts (record { kind = k; start = at; end = at + n }) (scanned_named s) here

pub spelled_names : (bytes : List ℕ) (ts : List Token) → Spells bytes ts → All (IsNamed bytes) ts
spelled_names bytes ts s = scanned_named s
