-- The second letter of each reserved word is a capital.
use Rattle.std.proofs.Common.{◌≡◌, Bool, true, false, ℕ, cond, eqb, List, length, Option, Some, None, refl, sym, ap, ◌∙◌, inl, inr}
use Rattle.std.specs.Prelude.{unwrap_or}
use Rattle.std.specs.Str.{bytes_eq}
use Rattle.std.proofs.lemmas.Bool.{cases_Bool}
use Rattle.std.proofs.lemmas.Slice.Eq.{bytes_eq-Decides}
use Rattle.ob_scan.specs.declared.kind.Kind.{Kind}
use Rattle.ob_scan.specs.declared.kind.Kind.TheVariants.{Ident}
use Rattle.ob_scan.specs.Lexemes.{has_second_capital}
use Rattle.ob_scan.specs.Tables.{two_letter_word, three_letter_word, four_letter_word, five_letter_word, longer_word, reserved_word}

-- one test of a table, which a text without a second capital doesn't pass, and the ones after it
skip : (text t : List ℕ) (k : Kind) (o : Option Kind) → has_second_capital text ≡ false → has_second_capital t ≡ true → o ≡ None → cond (bytes_eq text t) (Some k) o ≡ None
skip text t k o e f next =
    elim (cases_Bool (bytes_eq text t)) [
      | inl same ↦ let g : has_second_capital text ≡ true = ap has_second_capital ((bytes_eq-Decides text t).0 same) ∙ f in absurd cc
      | inr differs ↦ rw differs next
    ]

no_word_of_two : (text : List ℕ) → has_second_capital text ≡ false → two_letter_word text ≡ None
no_word_of_two text e = skip text _ _ _ e refl (skip text _ _ _ e refl (skip text _ _ _ e refl (skip text _ _ _ e refl (skip text _ _ _ e refl (skip text _ _ _ e refl (skip text _ _ _ e refl (skip text _ _ _ e refl refl)))))))

no_word_of_three : (text : List ℕ) → has_second_capital text ≡ false → three_letter_word text ≡ None
no_word_of_three text e = skip text _ _ _ e refl (skip text _ _ _ e refl (skip text _ _ _ e refl (skip text _ _ _ e refl (skip text _ _ _ e refl (skip text _ _ _ e refl refl)))))

no_word_of_four : (text : List ℕ) → has_second_capital text ≡ false → four_letter_word text ≡ None
no_word_of_four text e = skip text _ _ _ e refl (skip text _ _ _ e refl (skip text _ _ _ e refl (skip text _ _ _ e refl (skip text _ _ _ e refl refl))))

no_word_of_five : (text : List ℕ) → has_second_capital text ≡ false → five_letter_word text ≡ None
no_word_of_five text e = skip text _ _ _ e refl (skip text _ _ _ e refl (skip text _ _ _ e refl (skip text _ _ _ e refl (skip text _ _ _ e refl (skip text _ _ _ e refl (skip text _ _ _ e refl refl))))))

no_long_word_of : (text : List ℕ) → has_second_capital text ≡ false → longer_word text ≡ None
no_long_word_of text e = skip text _ _ _ e refl (skip text _ _ _ e refl (skip text _ _ _ e refl (skip text _ _ _ e refl (skip text _ _ _ e refl (skip text _ _ _ e refl (skip text _ _ _ e refl refl))))))

either : (t : Bool) (x y : Option Kind) → x ≡ None → y ≡ None → cond t x y ≡ None
either true x y e f = e
either false x y e f = f

pub no_word : (text : List ℕ) → has_second_capital text ≡ false → reserved_word text ≡ None
no_word text e =
    either (eqb (length text) 2) _ _ (no_word_of_two text e)
    (either (eqb (length text) 3) _ _ (no_word_of_three text e)
    (either (eqb (length text) 4) _ _ (no_word_of_four text e) (either (eqb (length text) 5) _ _ (no_word_of_five text e) (no_long_word_of text e))))

-- such a text is an identifier
pub plain_name : (text : List ℕ) → has_second_capital text ≡ false → Ident ≡ unwrap_or (reserved_word text) Ident
plain_name text e = sym (ap (λ (o : Option Kind). unwrap_or o Ident) (no_word text e))
