-- The longest delimiter at the start is a token.
use Rattle.std.proofs.Common.{◌≡◌, ℕ, ◌≤◌, ◌<◌, true, false, List, [], ◌∷◌, ◌++◌, length, Option, Some, None, refl, sym, ap, ◌∙◌, arith}
use Rattle.std.specs.Prelude.{option_map}
use Rattle.std.specs.Char.{is_ascii_alphabetic}
use Rattle.std.proofs.lemmas.Bool.{false≢true}
use Rattle.std.proofs.lemmas.Option.{some_pair_parts}
use Rattle.ob_scan.specs.declared.kind.Kind.{Kind}
use Rattle.ob_scan.specs.Comments.{begins_comment}
use Rattle.ob_scan.specs.Kinds.{text_of}
use Rattle.ob_scan.specs.Numbers.{first_passes, begins_digit}
use Rattle.ob_scan.specs.Lexemes.{delimiter_of, one_byte_delimiter_token, first_of}
use Rattle.ob_scan.specs.Spelling.{begins_quote}
use Rattle.ob_scan.specs.Tables.{one_byte_delimiter, two_byte_delimiter}
use Rattle.ob_scan.specs.Tokens.{fixed, StartsWith, IsToken, longest}
use Rattle.ob_scan.proofs.Shapes.{shape_of, word, sign, string, begins_word, begins_string, sign_letter}
use Rattle.ob_scan.proofs.Texts.{is_sign, listed, single_of_is, pair_of_is}

-- if neither a letter nor a digit nor a quote nor a comment begins
pub record IsPlain (bs : List ℕ) : Type 0 where
  pub digit : begins_digit bs ≡ false
  pub letter : first_passes is_ascii_alphabetic bs ≡ false
  pub quote : begins_quote bs ≡ false
  pub comment : begins_comment bs ≡ false

-- a delimiter of one byte or of two
data Sign (j : Kind) (other : List ℕ) (b : ℕ) (bs : List ℕ) : Type 0 where
  single : length other ≡ 1 → one_byte_delimiter b ≡ Some j → Sign j other b bs
  pair : (c : ℕ) (ds : List ℕ) → length other ≡ 2 → bs ≡ c ∷ ds → two_byte_delimiter b c ≡ Some j → Sign j other b bs

sign_at : (j : Kind) (other rest : List ℕ) (b : ℕ) (bs : List ℕ) → is_sign other ≡ true → text_of j ≡ Some other → b ∷ bs ≡ other ++ rest → Sign j other b bs
sign_at j [] rest b bs e f w = absurd cc
sign_at j (x ∷ []) rest b bs e f w =
    let same : b ≡ x = cc in
    single refl (rw same (rw (sign_letter x e) at (listed j (x ∷ []) f).0))
sign_at j (x ∷ y ∷ []) rest b bs e f w =
    let same : b ≡ x = cc in
    pair y rest refl (cc) (rw same (rw (sign_letter x e) at (listed j (x ∷ y ∷ []) f).0))
sign_at j (x ∷ y ∷ z ∷ other) rest b bs e f w = absurd cc

-- only a delimiter begins here
plain_sign : (b : ℕ) (bs : List ℕ) → IsPlain (b ∷ bs) → (j : Kind) (other : List ℕ) → StartsWith j other (b ∷ bs) → Sign j other b bs
plain_sign b bs p j other s =
    elim (shape_of s.is_text) [
      | word w ↦ absurd (false≢true (sym p.letter ∙ begins_word s w))
      | sign w t ↦ sign_at j other s.rest b bs w t s.front
      | string inside k n t ↦ absurd (false≢true (sym p.quote ∙ begins_string inside s t))
    ]

sign_short : {j : Kind} {other : List ℕ} {b : ℕ} {bs : List ℕ} → Sign j other b bs → length other ≤ 2
sign_short (single e f) = omega arith
sign_short (pair c ds e w f) = omega arith

pub record IsSign (k : Kind) (n : ℕ) (bs : List ℕ) : Type 0 where
  pub token : IsToken k n bs
  pub some : 0 < n
  pub within : n ≤ length bs

pair_token : (b c : ℕ) (bs : List ℕ) (k : Kind) → IsPlain (b ∷ c ∷ bs) → two_byte_delimiter b c ≡ Some k → IsToken k 2 (b ∷ c ∷ bs)
pair_token b c bs k p e =
    longest p.digit p.comment (record { is_text = fixed (pair_of_is b c k e); rest = bs; front = refl }) refl (λ j other s. sign_short (plain_sign b (c ∷ bs) p j other s))

one_long : {j : Kind} {other : List ℕ} {b : ℕ} {bs : List ℕ} → ((c : ℕ) (ds : List ℕ) (j : Kind) → bs ≡ c ∷ ds → two_byte_delimiter b c ≡ Some j → ⊥) → Sign j other b bs → length other ≤ 1
one_long h (single e f) = omega arith
one_long h (pair c ds e w f) = absurd (h c ds _ w f)

single_token : (b : ℕ) (bs : List ℕ) (k : Kind) → IsPlain (b ∷ bs) → ((c : ℕ) (ds : List ℕ) (j : Kind) → bs ≡ c ∷ ds → two_byte_delimiter b c ≡ Some j → ⊥) → one_byte_delimiter b ≡ Some k → IsToken k 1 (b ∷ bs)
single_token b bs k p h e =
    longest p.digit p.comment (record { is_text = fixed (single_of_is b k e); rest = bs; front = refl }) refl (λ j other s. one_long h (plain_sign b bs p j other s))

no_pair : (b c : ℕ) (bs : List ℕ) → two_byte_delimiter b c ≡ None → (x : ℕ) (ds : List ℕ) (j : Kind) → c ∷ bs ≡ x ∷ ds → two_byte_delimiter b x ≡ Some j → ⊥
no_pair b c bs e x ds j w f = let same : c ≡ x = cc in let g : two_byte_delimiter b c ≡ Some j = rw same f in absurd cc

in_single : (b : ℕ) (k : Kind) (n : ℕ) → one_byte_delimiter_token b ≡ Some (k, n) → (one_byte_delimiter b ≡ Some k) × (n ≡ 1)
in_single b k n e = go (one_byte_delimiter b) refl e
  where
    go : (o : Option Kind) → one_byte_delimiter b ≡ o → option_map {U = Kind × ℕ} (λ j. (j, 1)) o ≡ Some (k, n) → (one_byte_delimiter b ≡ Some k) × (n ≡ 1)
    go None f g = absurd cc
    go (Some j) f g = let p = some_pair_parts j k 1 n g in (f ∙ ap (λ (x : Kind). Some x) p.0, sym p.1)

pub delimiter_token : (bs : List ℕ) (k : Kind) (n : ℕ) → IsPlain bs → delimiter_of bs ≡ Some (k, n) → IsSign k n bs
delimiter_token [] k n p e = absurd cc
delimiter_token (b ∷ []) k n p e =
    let s = in_single b k n e in
    record { token = rw s.1 (single_token b [] k p (λ c ds j w f. absurd cc) s.0); some = omega (arith, s.1); within = omega (arith, s.1) }
delimiter_token (b ∷ c ∷ bs) k n p e = go (two_byte_delimiter b c) refl e
  where
    go : (o : Option Kind) → two_byte_delimiter b c ≡ o → first_of (option_map {U = Kind × ℕ} (λ j. (j, 2)) o) (one_byte_delimiter_token b) ≡ Some (k, n) → IsSign k n (b ∷ c ∷ bs)
    go None f g =
        let s = in_single b k n g in
        record { token = rw s.1 (single_token b (c ∷ bs) k p (no_pair b c bs f) s.0); some = omega (arith, s.1); within = omega (arith, s.1) }
    go (Some j) f g =
        let q = some_pair_parts j k 2 n g in
        record { token = rw (← q.1, ← q.0) (pair_token b c bs j p f); some = omega (arith, q.1); within = omega (arith, q.1) }

single_none : (b : ℕ) → one_byte_delimiter_token b ≡ None → one_byte_delimiter b ≡ None
single_none b e = go (one_byte_delimiter b) refl e
  where
    go : (o : Option Kind) → one_byte_delimiter b ≡ o → option_map {U = Kind × ℕ} (λ j. (j, 1)) o ≡ None → one_byte_delimiter b ≡ None
    go None f g = f
    go (Some j) f g = absurd cc

no_sign : {j : Kind} {other : List ℕ} {b : ℕ} {bs : List ℕ} → one_byte_delimiter b ≡ None → ((c : ℕ) (ds : List ℕ) (j : Kind) → bs ≡ c ∷ ds → two_byte_delimiter b c ≡ Some j → ⊥) → Sign j other b bs → ⊥
no_sign e h (single l f) = absurd cc
no_sign e h (pair c ds l w f) = h c ds _ w f

pub delimiter_none : (bs : List ℕ) → 0 < length bs → IsPlain bs → delimiter_of bs ≡ None → (j : Kind) (other : List ℕ) → StartsWith j other bs → ⊥
delimiter_none [] h p e j other s = absurd (omega arith)
delimiter_none (b ∷ []) h p e j other s = no_sign (single_none b e) (λ c ds k w f. absurd cc) (plain_sign b [] p j other s)
delimiter_none (b ∷ c ∷ bs) h p e j other s = go (two_byte_delimiter b c) refl e
  where
    go : (o : Option Kind) → two_byte_delimiter b c ≡ o → first_of (option_map {U = Kind × ℕ} (λ j. (j, 2)) o) (one_byte_delimiter_token b) ≡ None → ⊥
    go None f g = no_sign (single_none b g) (no_pair b c bs f) (plain_sign b (c ∷ bs) p j other s)
    go (Some k) f g = absurd cc
