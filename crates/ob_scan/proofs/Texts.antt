-- The table of reserved words and delimiters, from the kind to the text and back.
use Rattle.std.proofs.Common.{◌≡◌, ℕ, Bool, true, false, not, ◌&&◌, ◌||◌, cond, eqb, ltb, List, [], ◌∷◌, length, Option, Some, None, refl, sym, ap, subst, ◌∙◌, inl, inr}
use Rattle.std.specs.Char.{is_ascii_alphabetic, is_ascii_digit}
use Rattle.std.specs.Str.{bytes_eq}
use Rattle.std.proofs.lemmas.Bool.{cases_Bool, and_parts, eqb-true}
use Rattle.std.proofs.lemmas.Slice.Eq.{bytes_eq-Decides}
use Rattle.ob_scan.specs.declared.kind.Kind.{Kind}
use Rattle.ob_scan.specs.declared.kind.Kind.TheVariants as kinds
use Rattle.ob_scan.specs.Kinds.{text_of}
use Rattle.ob_scan.specs.Numbers.{first_passes}
use Rattle.ob_scan.specs.Tables.{two_letter_word, three_letter_word, four_letter_word, five_letter_word, longer_word, reserved_word, one_byte_delimiter, two_byte_delimiter}
use Rattle.ob_scan.specs.Tokens.{is_name}

-- the delimiter of a whole text
abbrev pub sign_of : List ℕ → Option Kind
sign_of [] = None
sign_of (b ∷ []) = one_byte_delimiter b
sign_of (b ∷ c ∷ []) = two_byte_delimiter b c
sign_of (b ∷ c ∷ d ∷ bs) = None

abbrev pub kind_of : List ℕ → Option Kind
kind_of text = cond (first_passes is_ascii_alphabetic text) (reserved_word text) (sign_of text)

-- a byte with which a delimiter may begin
abbrev pub is_sign_byte : ℕ → Bool
is_sign_byte b = not (is_ascii_alphabetic b) && (not (is_ascii_digit b) && (not (eqb b 34) && not (ltb b 33)))

-- one or two bytes, as in a delimiter
abbrev pub is_sign : List ℕ → Bool
is_sign [] = false
is_sign (b ∷ []) = is_sign_byte b
is_sign (b ∷ c ∷ []) = is_sign_byte b
is_sign (b ∷ c ∷ d ∷ bs) = false

abbrev Listed : Kind → Option (List ℕ) → Type 0
Listed k None = Unit {0}
Listed k (Some text) = (kind_of text ≡ Some k) × (is_name text || is_sign text ≡ true)

listed_at : (k : Kind) → Listed k (text_of k)
listed_at kinds.Ident = tt
listed_at kinds.Integer = tt
listed_at kinds.Real = tt
listed_at kinds.Text = tt
listed_at _ = (refl, refl)

-- a text of the table is found again by its bytes, and is a name or a delimiter
pub listed : (k : Kind) (text : List ℕ) → text_of k ≡ Some text → (kind_of text ≡ Some k) × (is_name text || is_sign text ≡ true)
listed k text e = let P : Option (List ℕ) → Type 0 = Listed k in subst P e (listed_at k)

same_kind : (k j : Kind) → Some k ≡ Some j → k ≡ j
same_kind k j e = cc

-- one test of a table, and the ones after it
pick : {text t : List ℕ} {j : Kind} {o : Option Kind} (k : Kind) → text_of k ≡ Some t → (o ≡ Some j → text_of j ≡ Some text) → cond (bytes_eq text t) (Some k) o ≡ Some j → text_of j ≡ Some text
pick {text} {t} {j} {o} k is next e =
    elim (cases_Bool (bytes_eq text t)) [
      | inl same ↦ ap text_of (sym (same_kind k j (rw same at e))) ∙ is ∙ ap (λ (x : List ℕ). Some x) (sym ((bytes_eq-Decides text t).0 same))
      | inr differs ↦ next (rw differs at e)
    ]

pick_one : {b x : ℕ} {j : Kind} {o : Option Kind} (k : Kind) → text_of k ≡ Some (x ∷ []) → (o ≡ Some j → text_of j ≡ Some (b ∷ [])) → cond (eqb b x) (Some k) o ≡ Some j → text_of j ≡ Some (b ∷ [])
pick_one {b} {x} {j} {o} k is next e =
    elim (cases_Bool (eqb b x)) [
      | inl same ↦ ap text_of (sym (same_kind k j (rw same at e))) ∙ is ∙ ap (λ (y : ℕ). Some (y ∷ [])) (sym (eqb-true b x same))
      | inr differs ↦ next (rw differs at e)
    ]

pick_two : {b c x y : ℕ} {j : Kind} {o : Option Kind} (k : Kind) → text_of k ≡ Some (x ∷ y ∷ []) → (o ≡ Some j → text_of j ≡ Some (b ∷ c ∷ [])) → cond (eqb b x && eqb c y) (Some k) o ≡ Some j → text_of j ≡ Some (b ∷ c ∷ [])
pick_two {b} {c} {x} {y} {j} {o} k is next e =
    elim (cases_Bool (eqb b x && eqb c y)) [
      | inl same ↦
          let p = and_parts _ _ same in
          let texts : Some (x ∷ y ∷ []) ≡ Some (b ∷ c ∷ []) = rw (eqb-true b x p.0, eqb-true c y p.1) refl in
          ap text_of (sym (same_kind k j (rw same at e))) ∙ is ∙ texts
      | inr differs ↦ next (rw differs at e)
    ]

word_of_two_is : (text : List ℕ) (j : Kind) → two_letter_word text ≡ Some j → text_of j ≡ Some text
word_of_two_is text j = pick _ refl (pick _ refl (pick _ refl (pick _ refl (pick _ refl (pick _ refl (pick _ refl (pick _ refl (λ e. absurd cc))))))))

word_of_three_is : (text : List ℕ) (j : Kind) → three_letter_word text ≡ Some j → text_of j ≡ Some text
word_of_three_is text j = pick _ refl (pick _ refl (pick _ refl (pick _ refl (pick _ refl (pick _ refl (λ e. absurd cc))))))

word_of_four_is : (text : List ℕ) (j : Kind) → four_letter_word text ≡ Some j → text_of j ≡ Some text
word_of_four_is text j = pick _ refl (pick _ refl (pick _ refl (pick _ refl (pick _ refl (λ e. absurd cc)))))

word_of_five_is : (text : List ℕ) (j : Kind) → five_letter_word text ≡ Some j → text_of j ≡ Some text
word_of_five_is text j = pick _ refl (pick _ refl (pick _ refl (pick _ refl (pick _ refl (pick _ refl (pick _ refl (λ e. absurd cc)))))))

long_word_of_is : (text : List ℕ) (j : Kind) → longer_word text ≡ Some j → text_of j ≡ Some text
long_word_of_is text j = pick _ refl (pick _ refl (pick _ refl (pick _ refl (pick _ refl (pick _ refl (pick _ refl (λ e. absurd cc)))))))

by_test : {P : Type 0} (t : Bool) (x y : Option Kind) (j : Kind) → (x ≡ Some j → P) → (y ≡ Some j → P) → cond t x y ≡ Some j → P
by_test true x y j f g e = f e
by_test false x y j f g e = g e

pub word_of_is : (text : List ℕ) (j : Kind) → reserved_word text ≡ Some j → text_of j ≡ Some text
word_of_is text j =
    by_test (eqb (length text) 2) _ _ j (word_of_two_is text j)
    (by_test (eqb (length text) 3) _ _ j (word_of_three_is text j)
    (by_test (eqb (length text) 4) _ _ j (word_of_four_is text j) (by_test (eqb (length text) 5) _ _ j (word_of_five_is text j) (long_word_of_is text j))))

pub single_of_is : (b : ℕ) (j : Kind) → one_byte_delimiter b ≡ Some j → text_of j ≡ Some (b ∷ [])
single_of_is b j = pick_one _ refl (pick_one _ refl (pick_one _ refl (pick_one _ refl (pick_one _ refl (pick_one _ refl (pick_one _ refl (pick_one _ refl (pick_one _ refl (pick_one _ refl (pick_one _ refl (pick_one _ refl (pick_one _ refl (pick_one _ refl (pick_one _ refl (pick_one _ refl (pick_one _ refl (pick_one _ refl (pick_one _ refl (pick_one _ refl (pick_one _ refl (pick_one _ refl (λ e. absurd cc))))))))))))))))))))))

pub pair_of_is : (b c : ℕ) (j : Kind) → two_byte_delimiter b c ≡ Some j → text_of j ≡ Some (b ∷ c ∷ [])
pair_of_is b c j = pick_two _ refl (pick_two _ refl (pick_two _ refl (pick_two _ refl (λ e. absurd cc))))
