-- The methods of std that split a string equal the functions on lists.
use Rattle.std.proofs.Common.{◌≡◌, ◌≢◌, ℕ, ◌<◌, Bool, eqb, eq-eqb, ltb, List, [], ◌∷◌, ◌++◌, length, Option, Some, None, refl, sym, ap, ◌∙◌, arith, inl, inr, Bor}
use Rattle.std.specs.Prelude.{option_map, MatchOption}
use Rattle.std.specs.List.{position_or_len, before_first, after_first}
use Rattle.std.specs.Str.Pattern.{LacksTextAt, StripsPrefix, FindsTextPrefix}
use Rattle.std.proofs.lemmas.Bool.{lt-ltb, le-ltb, cases_eq, ne_eqb}
use Rattle.std.proofs.lemmas.Option.{same_Some, none-some}
use Rattle.texts.specs.Fields.{split_at_first}
use Rattle.texts.proofs.FieldCuts.{cut_is}
use Rattle.scip_symbol.specs.Reading.{after_byte, after_bytes}

pub after_byte-same : (delimiter : ℕ) (rest : List ℕ) → after_byte delimiter (delimiter ∷ rest) ≡ Some rest
after_byte-same delimiter rest = rw (eq-eqb delimiter delimiter refl) refl

pub after_byte-other : (delimiter b : ℕ) (rest : List ℕ) → b ≢ delimiter → after_byte delimiter (b ∷ rest) ≡ None
after_byte-other delimiter b rest ne = rw (ne_eqb b delimiter ne) refl

none_after : (delimiter : ℕ) (text : List ℕ) → ((rest : List ℕ) → text ≢ delimiter ∷ rest) → None ≡ after_byte delimiter text
none_after delimiter [] h = refl
none_after delimiter (b ∷ rest) h = sym (after_byte-other delimiter b rest (λ e. h rest (ap (λ (x : ℕ). x ∷ rest) e)))

pub after_from : (delimiter : ℕ) (text : List ℕ) (r : Option (Bor (List ℕ))) → MatchOption r ((rest : List ℕ) → text ≢ delimiter ∷ rest) (λ x. text ≡ delimiter ∷ x.now) → option_map (λ (x : Bor (List ℕ)). x.now) r ≡ after_byte delimiter text
after_from delimiter text None h = none_after delimiter text h
after_from delimiter text (Some x) h = sym (ap (after_byte delimiter) h ∙ after_byte-same delimiter x.now)

pub after_bytes-again : (word rest : List ℕ) → after_bytes word (word ++ rest) ≡ Some rest
after_bytes-again [] rest = refl
after_bytes-again (w ∷ word) rest = rw (eq-eqb w w refl) (after_bytes-again word rest)

pub none_after_word : (word text : List ℕ) → ((rest : List ℕ) → text ≢ word ++ rest) → None ≡ after_bytes word text
none_after_word [] text h = absurd (h text refl)
none_after_word (w ∷ word) [] h = refl
none_after_word (w ∷ word) (b ∷ text) h =
    elim (cases_eq b w) [
      | inl e ↦ rw (eq-eqb b w e) (none_after_word word text (λ rest s. h rest (ap (λ (x : ℕ). x ∷ text) e ∙ ap (λ (xs : List ℕ). w ∷ xs) s)))
      | inr ne ↦ rw (ne_eqb b w ne) refl
    ]

pub after_bytes_some : (word text rest : List ℕ) → after_bytes word text ≡ Some rest → text ≡ word ++ rest
after_bytes_some [] text rest e = same_Some _ _ e
after_bytes_some (w ∷ word) [] rest e = absurd cc
after_bytes_some (w ∷ word) (b ∷ text) rest e =
    elim (cases_eq b w) [
      | inl s ↦ ap (λ (x : ℕ). x ∷ text) s ∙ ap (λ (xs : List ℕ). w ∷ xs) (after_bytes_some word text rest (rw (eq-eqb b w s) at e))
      | inr ne ↦ absurd (let y = rw (ne_eqb b w ne) at e in cc)
    ]

-- if `after_bytes` finds nothing, the string doesn't begin with the word
pub not_word : (word text : List ℕ) → after_bytes word text ≡ None → (rest : List ℕ) → text ≢ word ++ rest
not_word word text e rest s = none-some rest (sym e ∙ ap (after_bytes word) s ∙ after_bytes-again word rest)

-- ---- at the first occurrence

pub cut_from : (delimiter : ℕ) (bytes : List ℕ) (r : Option (Bor (List ℕ) × Bor (List ℕ)))
    → MatchOption r (position_or_len (λ b. eqb b delimiter) bytes ≡ length bytes) (λ x. (position_or_len (λ b. eqb b delimiter) bytes < length bytes) × (x.0.now ≡ before_first (λ b. eqb b delimiter) bytes) × (x.1.now ≡ after_first (λ b. eqb b delimiter) bytes))
    → option_map (λ (x : Bor (List ℕ) × Bor (List ℕ)). (x.0.now, x.1.now)) r ≡ split_at_first delimiter bytes
cut_from delimiter bytes None h =
    let n : ltb (position_or_len (λ b. eqb b delimiter) bytes) (length bytes) ≡ Bool.false = le-ltb _ _ (omega arith) in
    rw n at (sym (cut_is delimiter bytes))
cut_from delimiter bytes (Some x) h =
    let n : ltb (position_or_len (λ b. eqb b delimiter) bytes) (length bytes) ≡ Bool.true = lt-ltb _ _ h.0 in
    rw (h.1, h.2) (rw n at (sym (cut_is delimiter bytes)))

pub word_stripped : (word text : List ℕ) (r : Option (Bor (List ℕ))) → MatchOption r (LacksTextAt word text 0) (λ x. StripsPrefix (FindsTextPrefix word) text x.now)
    → option_map (λ (x : Bor (List ℕ)). x.now) r ≡ after_bytes word text
word_stripped word text None h = none_after_word word text h
word_stripped word text (Some x) h = sym (ap (after_bytes word) (h.1.1 ∙ ap (λ (t : List ℕ). word ++ t) (sym h.2)) ∙ after_bytes-again word x.now)
