-- Parts that a single byte ends are read exactly as they are written.
use Rattle.std.proofs.Common.{◌≡◌, ◌≢◌, ℕ, ◌<◌, List, [], ◌∷◌, ◌++◌, length, Option, Some, None, refl, sym, ap, subst, ◌∙◌, inl, inr, arith, append_assoc}
use Rattle.std.specs.Prelude.{option_map}
use Rattle.std.proofs.lemmas.Bool.{cases_eq, eq-eqb, ne_eqb}
use Rattle.std.proofs.lemmas.List.{append-nil}
use Rattle.std.proofs.lemmas.Option.{none-some}
use Rattle.scip_symbol.specs.Bytes.{doubled, IsNotFirst, IsEnded, IsUnended}
use Rattle.texts.specs.Fields.{with_first, split_at_first}
use Rattle.scip_symbol.specs.Reading.{after_byte, delimited_prefix}

-- ---- one step

pub ended-end : (delimiter : ℕ) (rest : List ℕ) → IsNotFirst delimiter rest → delimited_prefix delimiter (delimiter ∷ rest) ≡ Some ([], rest)
unfolding delimited_prefix
ended-end delimiter [] h = rw (eq-eqb delimiter delimiter refl) refl
ended-end delimiter (c ∷ more) h = rw (eq-eqb delimiter delimiter refl, ne_eqb c delimiter h) refl

pub ended-pair : (delimiter : ℕ) (more : List ℕ) → delimited_prefix delimiter (delimiter ∷ delimiter ∷ more) ≡ option_map (with_first delimiter) (delimited_prefix delimiter more)
unfolding delimited_prefix
ended-pair delimiter more = rw (eq-eqb delimiter delimiter refl) refl

pub ended-byte : (delimiter b : ℕ) (bytes : List ℕ) → b ≢ delimiter → delimited_prefix delimiter (b ∷ bytes) ≡ option_map (with_first b) (delimited_prefix delimiter bytes)
unfolding delimited_prefix
ended-byte delimiter b [] ne = rw (ne_eqb b delimiter ne) refl
ended-byte delimiter b (c ∷ more) ne = rw (ne_eqb b delimiter ne) refl

pub doubled-delimiter : (delimiter : ℕ) (part : List ℕ) → doubled delimiter (delimiter ∷ part) ≡ delimiter ∷ delimiter ∷ doubled delimiter part
doubled-delimiter delimiter part = rw (eq-eqb delimiter delimiter refl) refl

pub doubled-byte : (delimiter b : ℕ) (part : List ℕ) → b ≢ delimiter → doubled delimiter (b ∷ part) ≡ b ∷ doubled delimiter part
doubled-byte delimiter b part ne = rw (ne_eqb b delimiter ne) refl

-- ---- whole parts

-- a part that is written is read back
pub ended-again : (delimiter : ℕ) (part rest : List ℕ) → IsNotFirst delimiter rest → delimited_prefix delimiter (doubled delimiter part ++ delimiter ∷ rest) ≡ Some (part, rest)
ended-again delimiter [] rest h = ended-end delimiter rest h
ended-again delimiter (b ∷ part) rest h =
    elim (cases_eq b delimiter) [
      | inl e ↦ subst (λ (x : ℕ). delimited_prefix delimiter (doubled delimiter (x ∷ part) ++ delimiter ∷ rest) ≡ Some (x ∷ part, rest)) (sym e)
          (ap (λ (xs : List ℕ). delimited_prefix delimiter (xs ++ delimiter ∷ rest)) (doubled-delimiter delimiter part) ∙ ended-pair delimiter (doubled delimiter part ++ delimiter ∷ rest) ∙ ap (option_map (with_first delimiter)) (ended-again delimiter part rest h))
      | inr ne ↦ ap (λ (xs : List ℕ). delimited_prefix delimiter (xs ++ delimiter ∷ rest)) (doubled-byte delimiter b part ne)
          ∙ ended-byte delimiter b (doubled delimiter part ++ delimiter ∷ rest) ne ∙ ap (option_map (with_first b)) (ended-again delimiter part rest h)
    ]

pub mapped_some : (b : ℕ) (o : Option (List ℕ × List ℕ)) (x : List ℕ × List ℕ) → option_map (with_first b) o ≡ Some x → (y : List ℕ × List ℕ) × (o ≡ Some y) × (with_first b y ≡ x)
mapped_some b None x e = absurd cc
mapped_some b (Some y) x e = (y, refl, cc)

pub mapped_none : (b : ℕ) (o : Option (List ℕ × List ℕ)) → option_map (with_first b) o ≡ None → o ≡ None
mapped_none b None e = refl
mapped_none b (Some x) e = absurd cc

with_pair : (delimiter : ℕ) (more : List ℕ) (y : List ℕ × List ℕ) → IsEnded delimiter more y.0 y.1 → IsEnded delimiter (delimiter ∷ delimiter ∷ more) (delimiter ∷ y.0) y.1
with_pair delimiter more y i = record {
  whole = ap (λ (xs : List ℕ). delimiter ∷ delimiter ∷ xs) i.whole ∙ ap (λ (xs : List ℕ). xs ++ delimiter ∷ y.1) (sym (doubled-delimiter delimiter y.0));
  next = i.next;
}

with_byte : (delimiter b : ℕ) (more : List ℕ) (y : List ℕ × List ℕ) → b ≢ delimiter → IsEnded delimiter more y.0 y.1 → IsEnded delimiter (b ∷ more) (b ∷ y.0) y.1
with_byte delimiter b more y ne i = record {
  whole = ap (λ (xs : List ℕ). b ∷ xs) i.whole ∙ ap (λ (xs : List ℕ). xs ++ delimiter ∷ y.1) (sym (doubled-byte delimiter b y.0 ne));
  next = i.next;
}

-- a part that is read is written as the bytes that were read
pub ended-said : (delimiter : ℕ) (text : List ℕ) (x : List ℕ × List ℕ) → delimited_prefix delimiter text ≡ Some x → IsEnded delimiter text x.0 x.1
unfolding delimited_prefix
ended-said delimiter [] x e = absurd cc
ended-said delimiter (b ∷ []) x e =
    elim (cases_eq b delimiter) [
      | inl s ↦ let y : Some ([], []) ≡ Some x = rw (eq-eqb b delimiter s) at e in
          let z : ([], []) ≡ x = cc in
          subst (λ (v : List ℕ × List ℕ). IsEnded delimiter (b ∷ []) v.0 v.1) z (record { whole = ap (λ (n : ℕ). n ∷ []) s; next = tt })
      | inr ne ↦ absurd (let y = rw (ne_eqb b delimiter ne) at e in cc)
    ]
ended-said delimiter (b ∷ c ∷ more) x e =
    elim (cases_eq b delimiter) [
      | inl s ↦ elim (cases_eq c delimiter) [
        | inl t ↦ let m = mapped_some delimiter (delimited_prefix delimiter more) x (rw (eq-eqb b delimiter s, eq-eqb c delimiter t) at e) in
            let whole : delimiter ∷ delimiter ∷ more ≡ b ∷ c ∷ more = cc in
            subst (λ (v : List ℕ × List ℕ). IsEnded delimiter (b ∷ c ∷ more) v.0 v.1) m.2
            (subst (λ (text : List ℕ). IsEnded delimiter text (delimiter ∷ m.0.0) m.0.1) whole (with_pair delimiter more m.0 (ended-said delimiter more m.0 m.1)))
        | inr nt ↦ let y = rw (eq-eqb b delimiter s, ne_eqb c delimiter nt) at e in
            let z : ([], c ∷ more) ≡ x = cc in
            subst (λ (v : List ℕ × List ℕ). IsEnded delimiter (b ∷ c ∷ more) v.0 v.1) z (record { whole = ap (λ (n : ℕ). n ∷ c ∷ more) s; next = nt })
      ]
      | inr ne ↦ let m = mapped_some b (delimited_prefix delimiter (c ∷ more)) x (rw (ne_eqb b delimiter ne) at e) in
          subst (λ (v : List ℕ × List ℕ). IsEnded delimiter (b ∷ c ∷ more) v.0 v.1) m.2 (with_byte delimiter b (c ∷ more) m.0 ne (ended-said delimiter (c ∷ more) m.0 m.1))
    ]

pub ended-is : (delimiter : ℕ) (text part rest : List ℕ) → IsEnded delimiter text part rest → delimited_prefix delimiter text ≡ Some (part, rest)
ended-is delimiter text part rest i = ap (delimited_prefix delimiter) i.whole ∙ ended-again delimiter part rest i.next

pub unended : (delimiter : ℕ) (text : List ℕ) → delimited_prefix delimiter text ≡ None → IsUnended delimiter text
unended delimiter text e part rest i = none-some (part, rest) (sym e ∙ ended-is delimiter text part rest i)

pub unended-none : (delimiter : ℕ) (text : List ℕ) → IsUnended delimiter text → delimited_prefix delimiter text ≡ None
unended-none delimiter text u = go (delimited_prefix delimiter text) refl
  where
    go : (o : Option (List ℕ × List ℕ)) → delimited_prefix delimiter text ≡ o → o ≡ None
    go None e = refl
    go (Some x) e = absurd (u x.0 x.1 (ended-said delimiter text x e))

-- ---- up to the first occurrence of the byte

abbrev pub with_front : List ℕ → List ℕ × List ℕ → List ℕ × List ℕ
with_front xs parts = (xs ++ parts.0, parts.1)

pub front_none : (o : Option (List ℕ × List ℕ)) → option_map (with_front []) o ≡ o
front_none None = refl
front_none (Some x) = refl

front_first : (b : ℕ) (xs : List ℕ) (o : Option (List ℕ × List ℕ)) → option_map (with_first b) (option_map (with_front xs) o) ≡ option_map (with_front (b ∷ xs)) o
front_first b xs None = refl
front_first b xs (Some x) = refl

front_pushed : (b : ℕ) (xs : List ℕ) (o : Option (List ℕ × List ℕ)) → option_map (with_front xs) (option_map (with_first b) o) ≡ option_map (with_front (xs ++ b ∷ [])) o
front_pushed b xs None = refl
front_pushed b xs (Some x) = ap (λ (t : List ℕ). Some (t, x.1)) (sym (append_assoc xs (b ∷ []) x.0))

front_front : (xs ys : List ℕ) (o : Option (List ℕ × List ℕ)) → option_map (with_front xs) (option_map (with_front ys) o) ≡ option_map (with_front (xs ++ ys)) o
front_front xs ys None = refl
front_front xs ys (Some x) = ap (λ (t : List ℕ). Some (t, x.1)) (sym (append_assoc xs ys x.0))

cut_none : (delimiter : ℕ) (text : List ℕ) → split_at_first delimiter text ≡ None → delimited_prefix delimiter text ≡ None
unfolding split_at_first delimited_prefix
cut_none delimiter [] e = refl
cut_none delimiter (b ∷ text) e =
    elim (cases_eq b delimiter) [
      | inl s ↦ absurd (let y = rw (eq-eqb b delimiter s) at e in cc)
      | inr ne ↦ ended-byte delimiter b text ne ∙ ap (option_map (with_first b)) (cut_none delimiter text (mapped_none b (split_at_first delimiter text) (rw (ne_eqb b delimiter ne) at e)))
    ]

cut_some : (delimiter : ℕ) (text : List ℕ) (x : List ℕ × List ℕ) → split_at_first delimiter text ≡ Some x → delimited_prefix delimiter text ≡ option_map (with_front x.0) (delimited_prefix delimiter (delimiter ∷ x.1))
unfolding split_at_first
cut_some delimiter [] x e = absurd cc
cut_some delimiter (b ∷ text) x e =
    elim (cases_eq b delimiter) [
      | inl s ↦ let y = rw (eq-eqb b delimiter s) at e in
          let z : ([], text) ≡ x = cc in
          subst (λ (v : List ℕ × List ℕ). delimited_prefix delimiter (b ∷ text) ≡ option_map (with_front v.0) (delimited_prefix delimiter (delimiter ∷ v.1))) z
          (ap (λ (n : ℕ). delimited_prefix delimiter (n ∷ text)) s ∙ sym (front_none (delimited_prefix delimiter (delimiter ∷ text))))
      | inr ne ↦ let m = mapped_some b (split_at_first delimiter text) x (rw (ne_eqb b delimiter ne) at e) in
          subst (λ (v : List ℕ × List ℕ). delimited_prefix delimiter (b ∷ text) ≡ option_map (with_front v.0) (delimited_prefix delimiter (delimiter ∷ v.1))) m.2
          (ended-byte delimiter b text ne ∙ ap (option_map (with_first b)) (cut_some delimiter text m.0 m.1) ∙ front_first b m.0.0 (delimited_prefix delimiter (delimiter ∷ m.0.1)))
    ]

pub after_none : (delimiter : ℕ) (text : List ℕ) → after_byte delimiter text ≡ None → IsNotFirst delimiter text
after_none delimiter [] e = tt
after_none delimiter (b ∷ text) e = λ s. let y = rw (eq-eqb b delimiter s) at e in absurd cc

pub after_some : (delimiter : ℕ) (text rest : List ℕ) → after_byte delimiter text ≡ Some rest → text ≡ delimiter ∷ rest
after_some delimiter [] rest e = absurd cc
after_some delimiter (b ∷ text) rest e =
    elim (cases_eq b delimiter) [
      | inl s ↦ let y = rw (eq-eqb b delimiter s) at e in cc
      | inr ne ↦ absurd (let y = rw (ne_eqb b delimiter ne) at e in cc)
    ]

-- ---- the loop over the occurrences

pub runs_out : (delimiter : ℕ) (text part rest : List ℕ) → delimited_prefix delimiter text ≡ option_map (with_front part) (delimited_prefix delimiter rest) → split_at_first delimiter rest ≡ None → delimited_prefix delimiter text ≡ None
runs_out delimiter text part rest h e = h ∙ ap (option_map (with_front part)) (cut_none delimiter rest e)

up_to_mark : (delimiter : ℕ) (text part rest front after : List ℕ) → delimited_prefix delimiter text ≡ option_map (with_front part) (delimited_prefix delimiter rest) → split_at_first delimiter rest ≡ Some (front, after)
    → delimited_prefix delimiter text ≡ option_map (with_front (part ++ front)) (delimited_prefix delimiter (delimiter ∷ after))
up_to_mark delimiter text part rest front after h e = h ∙ ap (option_map (with_front part)) (cut_some delimiter rest (front, after) e) ∙ front_front part front (delimited_prefix delimiter (delimiter ∷ after))

pub ends_here : (delimiter : ℕ) (text part rest front after : List ℕ) → delimited_prefix delimiter text ≡ option_map (with_front part) (delimited_prefix delimiter rest) → split_at_first delimiter rest ≡ Some (front, after) → after_byte delimiter after ≡ None
    → delimited_prefix delimiter text ≡ Some (part ++ front, after)
ends_here delimiter text part rest front after h e n =
    up_to_mark delimiter text part rest front after h e ∙ ap (option_map (with_front (part ++ front))) (ended-end delimiter after (after_none delimiter after n))
    ∙ ap (λ (t : List ℕ). Some (t, after)) (simp append-nil)

pub goes_on : (delimiter : ℕ) (text part rest front after more : List ℕ) → delimited_prefix delimiter text ≡ option_map (with_front part) (delimited_prefix delimiter rest) → split_at_first delimiter rest ≡ Some (front, after) → after_byte delimiter after ≡ Some more
    → delimited_prefix delimiter text ≡ option_map (with_front ((part ++ front) ++ delimiter ∷ [])) (delimited_prefix delimiter more)
goes_on delimiter text part rest front after more h e n =
    up_to_mark delimiter text part rest front after h e
    ∙ ap (option_map (with_front (part ++ front))) (ap (λ (t : List ℕ). delimited_prefix delimiter (delimiter ∷ t)) (after_some delimiter after more n) ∙ ended-pair delimiter more)
    ∙ front_pushed delimiter (part ++ front) (delimited_prefix delimiter more)

pub cut_length : (delimiter : ℕ) (text : List ℕ) (x : List ℕ × List ℕ) → split_at_first delimiter text ≡ Some x → length x.1 < length text
unfolding split_at_first
cut_length delimiter [] x e = absurd cc
cut_length delimiter (b ∷ text) x e =
    elim (cases_eq b delimiter) [
      | inl s ↦ let y = rw (eq-eqb b delimiter s) at e in
          let z : ([], text) ≡ x = cc in
          subst (λ (v : List ℕ × List ℕ). length v.1 < length (b ∷ text)) z (omega arith)
      | inr ne ↦ let m = mapped_some b (split_at_first delimiter text) x (rw (ne_eqb b delimiter ne) at e) in
          subst (λ (v : List ℕ × List ℕ). length v.1 < length (b ∷ text)) m.2 (omega (arith, cut_length delimiter text m.0 m.1))
    ]

pub cut_shorter : (delimiter : ℕ) (text front after more : List ℕ) → split_at_first delimiter text ≡ Some (front, after) → after_byte delimiter after ≡ Some more → length more < length text
cut_shorter delimiter text front after more e n = omega (arith, cut_length delimiter text (front, after) e, ap length (after_some delimiter after more n))
