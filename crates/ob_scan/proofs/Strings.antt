-- The string up to the next quote is a token.
use Rattle.std.proofs.Common.{◌≡◌, ℕ, suc, ◌+◌, ◌<◌, true, false, ◌&&◌, eqb, ltb, List, [], ◌∷◌, ◌++◌, length, drop, Option, Some, None, refl, sym, ap, ◌∙◌, inl, inr, append_assoc, length-append, one-add, arith}
use Rattle.std.specs.List.{list_all, prefix_len}
use Rattle.std.specs.Char.{is_ascii_alphabetic}
use Rattle.std.proofs.lemmas.Bool.{and_parts, cases_Bool, ltb-true, ltb-false, eqb-true, false_from_ne_true, false≢true}
use Rattle.std.proofs.lemmas.List.Folds.{list_all-append}
use Rattle.ob_scan.specs.declared.kind.Kind.{Kind}
use Rattle.ob_scan.specs.declared.kind.Kind.TheVariants as kinds
use Rattle.ob_scan.specs.Numbers.{first_passes}
use Rattle.ob_scan.specs.Lexemes.{string_len}
use Rattle.ob_scan.specs.Tokens.{is_no_quote, quoted, StartsWith, IsToken, longest}
use Rattle.ob_scan.proofs.Runs.{run_stops, run_whole}
use Rattle.ob_scan.proofs.Shapes.{begins_paren, shape_of, word, sign, string, begins_word, begins_sign, apart, letter_quote, quote_sign, quote_paren, is_quote}
use Rattle.ob_scan.proofs.Texts.{is_sign_byte}

-- the parts of the bytes around the next quote
record Split (t : List ℕ) : Type 0 where
  inside : List ℕ
  rest : List ℕ
  whole : t ≡ inside ++ 34 ∷ rest
  no_quote : list_all is_no_quote inside ≡ true
  len : length inside ≡ prefix_len is_no_quote t

split_on : (b : ℕ) (t : List ℕ) → eqb b 34 ≡ false → Split t → Split (b ∷ t)
split_on b t goes s =
    record {
      inside = b ∷ s.inside;
      rest = s.rest;
      whole = ap (λ (x : List ℕ). b ∷ x) s.whole;
      no_quote = rw goes s.no_quote;
      len = rw goes (ap suc s.len ∙ sym (one-add (prefix_len is_no_quote t)));
    }

split : (t : List ℕ) → prefix_len is_no_quote t < length t → Split t
split [] h = absurd (omega arith)
split (b ∷ t) h =
    elim (cases_Bool (eqb b 34)) [
      | inl stops ↦ record { inside = []; rest = t; whole = rw (eqb-true b 34 stops) refl; no_quote = refl; len = rw stops refl }
      | inr goes ↦
          let g : 1 + prefix_len is_no_quote t < suc (length t) = rw goes at h in
          split_on b t goes (split t (omega arith))
    ]

-- a string at the start ends at the next quote
string_ends : (b : ℕ) (t inside rest : List ℕ) → b ∷ t ≡ (34 ∷ inside ++ 34 ∷ []) ++ rest → list_all is_no_quote inside ≡ true → prefix_len is_no_quote t ≡ length inside
string_ends b t inside rest e n =
    let whole : t ≡ inside ++ 34 ∷ rest = ap (drop 1) e ∙ append_assoc inside (34 ∷ []) rest in
    rw whole (run_stops is_no_quote inside 34 rest n refl)

-- only a string is at a quote, and it is this long
string_only : (bs : List ℕ) → first_passes is_quote bs ≡ true → (j : Kind) (other : List ℕ) → StartsWith j other bs → length other ≡ prefix_len is_no_quote (drop 1 bs) + 2
string_only [] e j other s = absurd cc
string_only (b ∷ t) e j other s =
    elim (shape_of s.is_text) [
      | word w ↦ absurd (apart is_ascii_alphabetic is_quote letter_quote (b ∷ t) (begins_word s w) e)
      | sign w x ↦ absurd (apart is_quote is_sign_byte quote_sign (b ∷ t) e (begins_sign s w))
      | string inside k n x ↦
          let front : b ∷ t ≡ (34 ∷ inside ++ 34 ∷ []) ++ s.rest = s.front ∙ ap (λ (y : List ℕ). y ++ s.rest) x in
          let ends = string_ends b t inside s.rest front n in
          rw x (omega (arith, length-append inside (34 ∷ []), ends))
    ]

string_at : (t : List ℕ) (n : ℕ) → prefix_len is_no_quote t < length t → prefix_len is_no_quote t + 2 ≡ n → IsToken kinds.Text n (34 ∷ t)
string_at t n h is =
    let s = split t h in
    let len : length (34 ∷ s.inside ++ 34 ∷ []) ≡ n = omega (arith, length-append s.inside (34 ∷ []), s.len) in
    longest refl (false_from_ne_true _ (λ f. apart is_quote (λ b. eqb b 40) quote_paren (34 ∷ t) refl (begins_paren (34 ∷ t) f))) (
    record {
      is_text = quoted s.inside s.no_quote refl;
      rest = s.rest;
      front = ap (λ (x : List ℕ). 34 ∷ x) (s.whole ∙ sym (append_assoc s.inside (34 ∷ []) s.rest));
    }
    ) len (λ j other o. omega (arith, string_only (34 ∷ t) refl j other o))

same_len : (m n : ℕ) → Some m ≡ Some n → m ≡ n
same_len m n e = cc

pub string_token : (bs : List ℕ) (n : ℕ) → first_passes is_quote bs ≡ true → string_len bs ≡ Some n → IsToken kinds.Text n bs × (0 < n)
string_token [] n e f = absurd cc
string_token (b ∷ t) n e f =
    elim (cases_Bool (ltb (prefix_len is_no_quote t) (length t))) [
      | inl lt ↦
          let is : prefix_len is_no_quote t + 2 ≡ n = same_len _ _ (rw lt at f) in
          (rw (eqb-true b 34 e) (string_at t n (ltb-true _ _ lt) is), omega arith)
      | inr ge ↦ let g : ◌≡◌ {A = Option ℕ} None (Some n) = rw ge at f in absurd cc
    ]

pub string_open : (bs : List ℕ) → first_passes is_quote bs ≡ true → string_len bs ≡ None → list_all is_no_quote (drop 1 bs) ≡ true
string_open [] e f = absurd cc
string_open (b ∷ t) e f =
    elim (cases_Bool (ltb (prefix_len is_no_quote t) (length t))) [
      | inl lt ↦ let g : ◌≡◌ {A = Option ℕ} (Some (prefix_len is_no_quote t + 2)) None = rw lt at f in absurd cc
      | inr ge ↦ run_whole is_no_quote t (ltb-false _ _ ge)
    ]

-- if no other quote follows, no token begins here
pub open_stands : (bs : List ℕ) → first_passes is_quote bs ≡ true → list_all is_no_quote (drop 1 bs) ≡ true → (j : Kind) (other : List ℕ) → StartsWith j other bs → ⊥
open_stands [] e f j other s = absurd cc
open_stands (b ∷ t) e f j other s =
    elim (shape_of s.is_text) [
      | word w ↦ apart is_ascii_alphabetic is_quote letter_quote (b ∷ t) (begins_word s w) e
      | sign w x ↦ apart is_quote is_sign_byte quote_sign (b ∷ t) e (begins_sign s w)
      | string inside k n x ↦
          let front : b ∷ t ≡ (34 ∷ inside ++ 34 ∷ []) ++ s.rest = s.front ∙ ap (λ (y : List ℕ). y ++ s.rest) x in
          let whole : t ≡ inside ++ 34 ∷ s.rest = ap (drop 1) front ∙ append_assoc inside (34 ∷ []) s.rest in
          let all : (list_all is_no_quote inside && false) ≡ true = sym (list_all-append is_no_quote inside (34 ∷ s.rest)) ∙ ap (list_all is_no_quote) (sym whole) ∙ f in
          let bad : false ≡ true = (and_parts _ _ all).1 in
          false≢true bad
    ]
