-- At an offset at most one blank, comment or token begins.
use Rattle.std.proofs.Common.{◌≡◌, ℕ, ◌≤◌, eqb, List, [], ◌∷◌, ◌++◌, length, drop, Some, refl, sym, ap, ◌∙◌, length-drop, inl, inr, arith}
use Rattle.std.specs.Char.{is_ascii_alphabetic, is_ascii_digit}
use Rattle.std.proofs.lemmas.Bool.{false≢true, or_cases}
use Rattle.std.proofs.lemmas.List.{append-nil}
use Rattle.std.proofs.lemmas.Option.{some_pair_parts}
use Rattle.ob_scan.specs.declared.kind.Kind.{Kind}
use Rattle.ob_scan.specs.Kinds.{text_of}
use Rattle.ob_scan.specs.Spelling.{IsGap, blank, comment}
use Rattle.ob_scan.specs.Tokens.{IsText, fixed, name, quoted, StartsWith, IsToken, number, longest}
use Rattle.ob_scan.proofs.Closings.{one_close}
use Rattle.ob_scan.proofs.Shapes.{begins_paren, shape_of, word, sign, string, begins_word, begins_sign, begins_string, apart, is_quote, is_blank, letter_quote, letter_blank, quote_sign, quote_blank, blank_sign, digit_blank, digit_paren, paren_blank}
use Rattle.ob_scan.proofs.Texts.{is_sign_byte, listed}

same_some : (k j : Kind) → Some k ≡ Some j → k ≡ j
same_some k j e = cc

whole : {k : Kind} {text : List ℕ} → IsText k text → StartsWith k text text
whole {k} {text} t = record { is_text = t; rest = []; front = sym (append-nil text) }

fixed_quoted : (k : Kind) (text inside : List ℕ) → text_of k ≡ Some text → text ≡ 34 ∷ inside ++ 34 ∷ [] → ⊥
fixed_quoted k text inside e w =
    let s = whole (fixed e) in
    elim (or_cases _ _ (listed k text e).1) [
      | inl n ↦ apart is_ascii_alphabetic is_quote letter_quote text (begins_word s n) (begins_string inside s w)
      | inr g ↦ apart is_quote is_sign_byte quote_sign text (begins_string inside s w) (begins_sign s g)
    ]

-- a text has one kind
text_kind : {k j : Kind} {text : List ℕ} → IsText k text → IsText j text → k ≡ j
text_kind {k} {j} {text} (fixed e) (fixed f) = same_some k j (sym (listed k text e).0 ∙ (listed j text f).0)
text_kind {k} (fixed e) (name n x) = absurd (x k e)
text_kind {k} {j} {text} (fixed e) (quoted inside n w) = absurd (fixed_quoted k text inside e w)
text_kind {k} {j} (name n x) (fixed f) = absurd (x j f)
text_kind (name n x) (name m y) = refl
text_kind {k} {j} {text} (name n x) (quoted inside m w) =
    let s = whole (name n x) in
    absurd (apart is_ascii_alphabetic is_quote letter_quote text (begins_word s n) (begins_string inside s w))
text_kind {k} {j} {text} (quoted inside n w) (fixed f) = absurd (fixed_quoted j text inside f w)
text_kind {k} {j} {text} (quoted inside m w) (name n x) =
    let s = whole (name n x) in
    absurd (apart is_ascii_alphabetic is_quote letter_quote text (begins_word s n) (begins_string inside s w))
text_kind (quoted inside n w) (quoted other m v) = refl

same_front : (t u r q : List ℕ) → t ++ r ≡ u ++ q → length t ≡ length u → t ≡ u
same_front [] [] r q e f = refl
same_front [] (y ∷ u) r q e f = absurd (omega arith)
same_front (x ∷ t) [] r q e f = absurd (omega arith)
same_front (x ∷ t) (y ∷ u) r q e f =
    let head : x ≡ y = cc in
    let tails : t ++ r ≡ u ++ q = cc in
    rw (head, same_front t u r q tails (omega arith)) refl

pub record Same (k j : Kind) (n m : ℕ) : Type 0 where
  pub kind : k ≡ j
  pub len : n ≡ m

pub one_token : {k j : Kind} {n m : ℕ} {bs : List ℕ} → IsToken k n bs → IsToken j m bs → Same k j n m
one_token {k} {j} {n} {m} (number d e) (number c f) = let p = some_pair_parts k j n m (sym e ∙ f) in record { kind = p.0; len = p.1 }
one_token (number d e) (longest c x s l h) = absurd (false≢true (sym c ∙ d))
one_token (longest c x s l h) (number d e) = absurd (false≢true (sym c ∙ d))
one_token {k} {j} {n} {m} {bs} (longest {text = t} c x s l h) (longest {text = u} d y o g i) =
    let le : length u ≤ n = h j u o in
    let ge : length t ≤ m = i k t s in
    let same : t ≡ u = same_front t u s.rest o.rest (sym s.front ∙ o.front) (omega arith) in
    let text : IsText k u = rw same at s.is_text in
    record { kind = text_kind text o.is_text; len = omega arith }

pub one_gap : {n m : ℕ} {bs : List ℕ} → IsGap n bs → IsGap m bs → n ≡ m
one_gap (blank e) (blank f) = refl
one_gap {bs = bs} (blank e) (comment f l c) = absurd (apart (λ b. eqb b 40) is_blank paren_blank bs (begins_paren bs f) e)
one_gap {bs = bs} (comment f l c) (blank e) = absurd (apart (λ b. eqb b 40) is_blank paren_blank bs (begins_paren bs f) e)
one_gap {n} {m} {bs} (comment f l c) (comment g h d) =
    let same : length (drop n bs) ≡ length (drop m bs) = ap length (one_close (drop 2 bs) (drop n bs) (drop m bs) c d) in
    omega (arith, length-drop n bs, length-drop m bs)

pub not_both : {k : Kind} {n m : ℕ} {bs : List ℕ} → IsGap n bs → IsToken k m bs → ⊥
not_both {bs = bs} (blank e) (number d f) = apart is_ascii_digit is_blank digit_blank bs d e
not_both {bs = bs} (blank e) (longest c x s l h) =
    elim (shape_of s.is_text) [
      | word w ↦ apart is_ascii_alphabetic is_blank letter_blank bs (begins_word s w) e
      | sign w t ↦ apart is_blank is_sign_byte blank_sign bs e (begins_sign s w)
      | string inside k n t ↦ apart is_quote is_blank quote_blank bs (begins_string inside s t) e
    ]
not_both {bs = bs} (comment f l c) (number d g) = apart is_ascii_digit (λ b. eqb b 40) digit_paren bs d (begins_paren bs f)
not_both (comment f l c) (longest d x s g h) = false≢true (sym x ∙ f)
