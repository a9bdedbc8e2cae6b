-- Appending a string with a byte doubled, from one occurrence of the byte to the next.
use Rattle.std.proofs.Common.{◌≡◌, ℕ, List, [], ◌∷◌, ◌++◌, Some, None, Result, Ok, Err, refl, sym, ap, subst, ◌∙◌, inl, inr, append_assoc}
use Rattle.std.specs.Prelude.{OnOk, is_ok, if◌then◌else◌}
use Rattle.std.proofs.lemmas.Bool.{cases_eq, eq-eqb, ne_eqb}
use Rattle.scip_symbol.specs.Bytes.{doubled}
use Rattle.texts.specs.Fields.{split_at_first}
use Rattle.scip_symbol.proofs.Ends.{doubled-delimiter, doubled-byte, mapped_some, mapped_none}

doubled_rest : (delimiter : ℕ) (text : List ℕ) → split_at_first delimiter text ≡ None → doubled delimiter text ≡ text
unfolding split_at_first
doubled_rest delimiter [] e = refl
doubled_rest delimiter (b ∷ text) e =
    elim (cases_eq b delimiter) [
      | inl s ↦ absurd (let y = rw (eq-eqb b delimiter s) at e in cc)
      | inr ne ↦ doubled-byte delimiter b text ne ∙ ap (λ (t : List ℕ). b ∷ t) (doubled_rest delimiter text (mapped_none b (split_at_first delimiter text) (rw (ne_eqb b delimiter ne) at e)))
    ]

doubled_cut : (delimiter : ℕ) (text : List ℕ) (x : List ℕ × List ℕ) → split_at_first delimiter text ≡ Some x → doubled delimiter text ≡ x.0 ++ delimiter ∷ delimiter ∷ doubled delimiter x.1
unfolding split_at_first
doubled_cut delimiter [] x e = absurd cc
doubled_cut delimiter (b ∷ text) x e =
    elim (cases_eq b delimiter) [
      | inl s ↦ let y = rw (eq-eqb b delimiter s) at e in
          let z : ([], text) ≡ x = cc in
          subst (λ (v : List ℕ × List ℕ). doubled delimiter (b ∷ text) ≡ v.0 ++ delimiter ∷ delimiter ∷ doubled delimiter v.1) z
          (ap (λ (n : ℕ). doubled delimiter (n ∷ text)) s ∙ doubled-delimiter delimiter text)
      | inr ne ↦ let m = mapped_some b (split_at_first delimiter text) x (rw (ne_eqb b delimiter ne) at e) in
          subst (λ (v : List ℕ × List ℕ). doubled delimiter (b ∷ text) ≡ v.0 ++ delimiter ∷ delimiter ∷ doubled delimiter v.1) m.2
          (doubled-byte delimiter b text ne ∙ ap (λ (t : List ℕ). b ∷ t) (doubled_cut delimiter text m.0 m.1))
    ]

pub put_all : (delimiter : ℕ) (before out text rest : List ℕ) → out ++ doubled delimiter rest ≡ before ++ doubled delimiter text → split_at_first delimiter rest ≡ None → out ++ rest ≡ before ++ doubled delimiter text
put_all delimiter before out text rest h e = ap (λ (t : List ℕ). out ++ t) (sym (doubled_rest delimiter rest e)) ∙ h

pub put_more : (delimiter : ℕ) (before out text rest front after : List ℕ) → out ++ doubled delimiter rest ≡ before ++ doubled delimiter text → split_at_first delimiter rest ≡ Some (front, after)
    → (((out ++ front) ++ delimiter ∷ []) ++ delimiter ∷ []) ++ doubled delimiter after ≡ before ++ doubled delimiter text
put_more delimiter before out text rest front after h e =
    append_assoc ((out ++ front) ++ delimiter ∷ []) (delimiter ∷ []) (doubled delimiter after) ∙ append_assoc (out ++ front) (delimiter ∷ []) (delimiter ∷ doubled delimiter after)
    ∙ append_assoc out front (delimiter ∷ delimiter ∷ doubled delimiter after) ∙ ap (λ (t : List ℕ). out ++ t) (sym (doubled_cut delimiter rest (front, after) e)) ∙ h

-- once the rest without the byte is appended, the whole string is
pub put_on_ok : {E : Type 0} (r : Result (Unit {0}) E) (new out rest all : List ℕ) → new ≡ (if is_ok r then out ++ rest else out) → out ++ rest ≡ all → OnOk r (new ≡ all)
put_on_ok (Ok x) new out rest all h e = h ∙ e
put_on_ok (Err x) new out rest all h e = tt
