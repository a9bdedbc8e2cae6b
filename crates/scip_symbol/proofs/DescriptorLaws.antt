-- Descriptors are read exactly as they are written.
use Rattle.std.proofs.Common.{◌≡◌, ◌≢◌, ◌⊎◌, ℕ, ◌<◌, true, List, [], ◌∷◌, ◌++◌, codes, length, Option, Some, None, Result, Ok, Err, refl, sym, ap, subst, ◌∙◌, inl, inr, arith, append_assoc, length-append}
use Rattle.std.specs.Option.{ok_or, option_map}
use Rattle.std.proofs.lemmas.Bool.{cases_eq, eq-eqb, ne_eqb, eqb-false}
use Rattle.std.proofs.lemmas.Option.{none-some, same_Some}
use Rattle.scip_symbol.specs.declared.kind.DescriptorKind.{DescriptorKind}
use Rattle.scip_symbol.specs.declared.kind.DescriptorKind.TheVariants.{Namespace, TypeName, Term, Method, Meta, Macro, TypeParameter, Parameter}
use Rattle.scip_symbol.specs.declared.fault.SymbolFault.{SymbolFault}
use Rattle.scip_symbol.specs.declared.fault.SymbolFault.TheVariants as faults
use Rattle.scip_symbol.specs.Bytes.{IsUnended}
use Rattle.scip_symbol.specs.SymbolTexts.{DescriptorModel, are_simple, before_name, closing, IsOfMethod, NameText, DescriptorText}
use Rattle.scip_symbol.specs.Outcomes.{HasOpenQuote}
use Rattle.scip_symbol.specs.Reading.{after_byte, after_bytes, simple_prefix, first_name_at, enclosed_descriptor_at, method_suffix_at, kind_of_suffix, suffix_at, one_byte_suffix_at, suffixed_after_paren, descriptor_suffix_at, bare_descriptor_at, descriptor_after_mark, descriptor_at, ◌>>=◌}
use Rattle.scip_symbol.proofs.Answered.{ok_same, err_same}
use Rattle.scip_symbol.proofs.TextCuts.{after_bytes_some}
use Rattle.scip_symbol.proofs.Ends.{after_some}
use Rattle.scip_symbol.proofs.Names.{EndsName, OpensQuote, name_takes, name_again, name_begins, name_open, name_fails, front_joins, front_simple, front-again}

-- a descriptor that is read, with its text
pub record IsRead (text : List ℕ) (x : DescriptorModel × List ℕ) : Type 0 where
  pub first : List ℕ
  pub first_is : DescriptorText x.0 first
  pub split : text ≡ first ++ x.1

err_as : {X : Type 0} (x y : SymbolFault) → ◌≡◌ {A = Result X SymbolFault} (Err x) (Err y) → ◌≡◌ {A = Result (List ℕ × List ℕ) SymbolFault} (Err x) (Err y)
err_as x y e = ap (λ (z : SymbolFault). Err z) (err_same x y e)

-- ---- a descriptor that is read has the string that was read

-- the name that was read and what follows it are a descriptor of this kind
read_as : (kind : DescriptorKind) (name disambiguator written rest others : List ℕ) → NameText name written → IsOfMethod kind disambiguator → are_simple disambiguator ≡ true
    → rest ≡ closing kind disambiguator ++ others → IsRead (before_name kind ++ written ++ rest) (record { kind = kind; name = name; disambiguator = disambiguator }, others)
read_as kind name disambiguator written rest others t m s e = record {
  first = before_name kind ++ written ++ closing kind disambiguator;
  first_is = record { name = written; name_is = t; of_method = m; simple = s; whole = refl };
  split = ap (λ (xs : List ℕ). before_name kind ++ written ++ xs) e ∙ sym (append_assoc (before_name kind ++ written) (closing kind disambiguator) others);
}

none_of : (kind : DescriptorKind) → IsOfMethod kind []
none_of kind = λ ne. refl

after_word_some : (text rest : List ℕ) → after_bytes (codes ").") text ≡ Some rest → text ≡ 41 ∷ 46 ∷ rest
after_word_some text rest e = after_bytes_some (codes ").") text rest e

closed_takes : (at : ℕ) (kind : DescriptorKind) (close : ℕ) (inside : List ℕ) (x : DescriptorModel × List ℕ) → closing kind [] ≡ close ∷ [] → enclosed_descriptor_at at kind close inside ≡ Ok x → IsRead (before_name kind ++ inside) x
unfolding enclosed_descriptor_at
closed_takes at kind close inside x same e = by_name (first_name_at at inside) refl e
  where
    by_rest : (n : List ℕ × List ℕ) (o : Option (List ℕ)) → first_name_at at inside ≡ Ok n → after_byte close n.1 ≡ o
        → ok_or o (faults.BadDescriptor at) >>= (λ rest. Ok (record { kind = kind; name = n.0; disambiguator = [] }, rest)) ≡ Ok x → IsRead (before_name kind ++ inside) x
    by_rest n None h s e = absurd cc
    by_rest n (Some rest) h s e =
        let t = name_takes at inside n h in
        let z : (record { kind = kind; name = n.0; disambiguator = [] }, rest) ≡ x = ok_same _ _ e in
        let r = read_as kind n.0 [] t.written n.1 rest t.written_is (none_of kind) refl (after_some close n.1 rest s ∙ ap (λ (xs : List ℕ). xs ++ rest) (sym same)) in
        subst (λ (v : DescriptorModel × List ℕ). IsRead (before_name kind ++ inside) v) z
        (subst (λ (xs : List ℕ). IsRead xs (record { kind = kind; name = n.0; disambiguator = [] }, rest)) (append_assoc (before_name kind) t.written n.1 ∙ ap (λ (xs : List ℕ). before_name kind ++ xs) (sym t.split)) r)

    by_name : (o : Result (List ℕ × List ℕ) SymbolFault) → first_name_at at inside ≡ o
        → o >>= (λ n. ok_or (after_byte close n.1) (faults.BadDescriptor at) >>= (λ rest. Ok (record { kind = kind; name = n.0; disambiguator = [] }, rest))) ≡ Ok x → IsRead (before_name kind ++ inside) x
    by_name (Err fault) h e = absurd cc
    by_name (Ok n) h e = by_rest n (after_byte close n.1) h refl e

method_takes : (at : ℕ) (name written inside : List ℕ) (x : DescriptorModel × List ℕ) → NameText name written → method_suffix_at at name inside ≡ Ok x → IsRead (written ++ 40 ∷ inside) x
unfolding method_suffix_at
method_takes at name written inside x t e = go (after_bytes (codes ").") (simple_prefix inside).1) refl e
  where
    go : (o : Option (List ℕ)) → after_bytes (codes ").") (simple_prefix inside).1 ≡ o
        → ok_or o (faults.BadDescriptor at) >>= (λ rest. Ok (record { kind = Method; name = name; disambiguator = (simple_prefix inside).0 }, rest)) ≡ Ok x → IsRead (written ++ 40 ∷ inside) x
    go None s e = absurd cc
    go (Some rest) s e =
        let z : (record { kind = Method; name = name; disambiguator = (simple_prefix inside).0 }, rest) ≡ x = ok_same _ _ e in
        let split : inside ≡ (simple_prefix inside).0 ++ 41 ∷ 46 ∷ rest = front_joins inside ∙ ap (λ (xs : List ℕ). (simple_prefix inside).0 ++ xs) (after_word_some (simple_prefix inside).1 rest s) in
        let whole : 40 ∷ inside ≡ closing Method (simple_prefix inside).0 ++ rest = ap (λ (xs : List ℕ). 40 ∷ xs) (split ∙ sym (append_assoc (simple_prefix inside).0 (codes ").") rest)) in
        subst (λ (v : DescriptorModel × List ℕ). IsRead (written ++ 40 ∷ inside) v) z
        (read_as Method name (simple_prefix inside).0 written (40 ∷ inside) rest t (λ ne. absurd (ne refl)) (front_simple inside) whole)

-- the byte after a name of this kind, and the byte before it
pub record IsTold (b : ℕ) (kind : DescriptorKind) : Type 0 where
  pub closes : closing kind [] ≡ b ∷ []
  pub opens : before_name kind ≡ []

tells : (b n : ℕ) (kind k : DescriptorKind) → closing k [] ≡ n ∷ [] → before_name k ≡ [] → b ≡ n → ◌≡◌ {A = Option DescriptorKind} (Some k) (Some kind) → IsTold b kind
tells b n kind k c o s e = subst (λ (x : DescriptorKind). IsTold b x) (same_Some k kind e) (record { closes = c ∙ ap (λ (x : ℕ). x ∷ []) (sym s); opens = o })

told_is : (b : ℕ) (kind : DescriptorKind) → kind_of_suffix b ≡ Some kind → IsTold b kind
told_is b kind e =
    elim (cases_eq b 47) [
      | inl s ↦ tells b 47 kind Namespace refl refl s (rw (eq-eqb b 47 s) at e)
      | inr n ↦ elim (cases_eq b 35) [
        | inl s ↦ tells b 35 kind TypeName refl refl s (rw (ne_eqb b 47 n, eq-eqb b 35 s) at e)
        | inr m ↦ elim (cases_eq b 46) [
          | inl s ↦ tells b 46 kind Term refl refl s (rw (ne_eqb b 47 n, ne_eqb b 35 m, eq-eqb b 46 s) at e)
          | inr k ↦ elim (cases_eq b 58) [
            | inl s ↦ tells b 58 kind Meta refl refl s (rw (ne_eqb b 47 n, ne_eqb b 35 m, ne_eqb b 46 k, eq-eqb b 58 s) at e)
            | inr j ↦ elim (cases_eq b 33) [
              | inl s ↦ tells b 33 kind Macro refl refl s (rw (ne_eqb b 47 n, ne_eqb b 35 m, ne_eqb b 46 k, ne_eqb b 58 j, eq-eqb b 33 s) at e)
              | inr i ↦ absurd (none-some kind (rw (ne_eqb b 47 n, ne_eqb b 35 m, ne_eqb b 46 k, ne_eqb b 58 j, ne_eqb b 33 i) at e))
            ]
          ]
        ]
      ]
    ]

abbrev with_rest : List ℕ → DescriptorKind → DescriptorKind × List ℕ
with_rest rest kind = (kind, rest)

told_takes : (at : ℕ) (name written text : List ℕ) (x : DescriptorModel × List ℕ) → NameText name written → one_byte_suffix_at at name text ≡ Ok x → IsRead (written ++ text) x
unfolding one_byte_suffix_at
told_takes at name written [] x t e = absurd cc
told_takes at name written (b ∷ rest) x t e = go (kind_of_suffix b) refl e
  where
    go : (o : Option DescriptorKind) → kind_of_suffix b ≡ o
        → ok_or (option_map (with_rest rest) o) (faults.BadDescriptor at) >>= (λ y. Ok (record { kind = y.0; name = name; disambiguator = [] }, y.1)) ≡ Ok x → IsRead (written ++ b ∷ rest) x
    go None s e = absurd cc
    go (Some kind) s e =
        let z : (record { kind = kind; name = name; disambiguator = [] }, rest) ≡ x = ok_same _ _ e in
        let is = told_is b kind s in
        let r = read_as kind name [] written (b ∷ rest) rest t (none_of kind) refl (ap (λ (xs : List ℕ). xs ++ rest) (sym is.closes)) in
        subst (λ (v : DescriptorModel × List ℕ). IsRead (written ++ b ∷ rest) v) z
        (subst (λ (xs : List ℕ). IsRead (xs ++ written ++ b ∷ rest) (record { kind = kind; name = name; disambiguator = [] }, rest)) is.opens r)

suffixed_takes : (at : ℕ) (name written text : List ℕ) (x : DescriptorModel × List ℕ) → NameText name written → descriptor_suffix_at at name text ≡ Ok x → IsRead (written ++ text) x
unfolding descriptor_suffix_at
suffixed_takes at name written text x t e = go (after_byte 40 text) refl e
  where
    go : (o : Option (List ℕ)) → after_byte 40 text ≡ o → suffixed_after_paren at name o text ≡ Ok x → IsRead (written ++ text) x
    go None s e = told_takes at name written text x t e
    go (Some inside) s e = subst (λ (xs : List ℕ). IsRead (written ++ xs) x) (sym (after_some 40 text inside s)) (method_takes at name written inside x t e)

bare_takes : (at : ℕ) (text : List ℕ) (x : DescriptorModel × List ℕ) → bare_descriptor_at at text ≡ Ok x → IsRead text x
unfolding bare_descriptor_at
bare_takes at text x e = go (first_name_at at text) refl e
  where
    go : (o : Result (List ℕ × List ℕ) SymbolFault) → first_name_at at text ≡ o → o >>= (λ n. descriptor_suffix_at at n.0 n.1) ≡ Ok x → IsRead text x
    go (Err fault) s e = absurd cc
    go (Ok n) s e =
        let t = name_takes at text n s in
        subst (λ (xs : List ℕ). IsRead xs x) (sym t.split) (suffixed_takes at n.0 t.written n.1 x t.written_is e)

pub read_of : (at : ℕ) (text : List ℕ) (x : DescriptorModel × List ℕ) → descriptor_at at text ≡ Ok x → IsRead text x
unfolding descriptor_at
read_of at text x e = go (after_byte 91 text) (after_byte 40 text) refl refl e
  where
    go : (o p : Option (List ℕ)) → after_byte 91 text ≡ o → after_byte 40 text ≡ p → descriptor_after_mark at o p text ≡ Ok x → IsRead text x
    go None None s r e = bare_takes at text x e
    go None (Some inside) s r e = subst (λ (xs : List ℕ). IsRead xs x) (sym (after_some 40 text inside r)) (closed_takes at Parameter 41 inside x refl e)
    go (Some inside) p s r e = subst (λ (xs : List ℕ). IsRead xs x) (sym (after_some 91 text inside s)) (closed_takes at TypeParameter 93 inside x refl e)

closing_some : (kind : DescriptorKind) (disambiguator : List ℕ) → 0 < length (closing kind disambiguator)
closing_some Namespace dis = omega arith
closing_some TypeName dis = omega arith
closing_some Term dis = omega arith
closing_some Method dis = omega arith
closing_some Meta dis = omega arith
closing_some Macro dis = omega arith
closing_some TypeParameter dis = omega arith
closing_some Parameter dis = omega arith

pub descriptor_some : (d : DescriptorModel) (first : List ℕ) → DescriptorText d first → 0 < length first
descriptor_some d first t =
    omega (arith, ap length t.whole, length-append (before_name d.kind ++ t.name) (closing d.kind d.disambiguator), closing_some d.kind d.disambiguator)

pub descriptor_shortens : (at : ℕ) (text : List ℕ) (d : DescriptorModel) (rest : List ℕ) → descriptor_at at text ≡ Ok (d, rest) → length rest < length text
descriptor_shortens at text d rest e =
    let r = read_of at text (d, rest) e in
    omega (arith, descriptor_some d r.first r.first_is, ap length r.split, length-append r.first rest)

-- ---- a descriptor that is written is read back

after_name : (at : ℕ) (kind : DescriptorKind) (name written others : List ℕ) → NameText name written → EndsName others → bare_descriptor_at at (written ++ others) ≡ descriptor_suffix_at at name others
unfolding bare_descriptor_at
after_name at kind name written others t h = rw (name_again at name written others t h) refl

bare_first : (at : ℕ) (name written rest : List ℕ) → NameText name written → descriptor_at at (written ++ rest) ≡ bare_descriptor_at at (written ++ rest)
unfolding descriptor_at
bare_first at name written rest t = rw (name_begins 91 name written rest refl (eqb-false 91 96 refl) t, name_begins 40 name written rest refl (eqb-false 40 96 refl) t) refl

told_again : (at : ℕ) (kind : DescriptorKind) (b : ℕ) (name written others : List ℕ) → NameText name written → EndsName (b ∷ others) → after_byte 40 (b ∷ others) ≡ None → kind_of_suffix b ≡ Some kind
    → descriptor_at at (written ++ b ∷ others) ≡ Ok (record { kind = kind; name = name; disambiguator = [] }, others)
unfolding descriptor_suffix_at one_byte_suffix_at
told_again at kind b name written others t h n k = bare_first at name written (b ∷ others) t ∙ after_name at kind name written (b ∷ others) t h ∙ rw (n, k) refl

method_again : (at : ℕ) (name disambiguator written others : List ℕ) → NameText name written → are_simple disambiguator ≡ true
    → descriptor_at at (written ++ (40 ∷ (disambiguator ++ 41 ∷ 46 ∷ others))) ≡ Ok (record { kind = Method; name = name; disambiguator = disambiguator }, others)
unfolding descriptor_suffix_at method_suffix_at
method_again at name disambiguator written others t s =
    bare_first at name written (40 ∷ (disambiguator ++ 41 ∷ 46 ∷ others)) t ∙ after_name at Method name written (40 ∷ (disambiguator ++ 41 ∷ 46 ∷ others)) t (refl, eqb-false 40 96 refl)
    ∙ rw (front-again disambiguator (41 ∷ 46 ∷ others) s refl) refl

closed_again : (at : ℕ) (kind : DescriptorKind) (close : ℕ) (name written others : List ℕ) → NameText name written → EndsName (close ∷ others) → after_byte close (close ∷ others) ≡ Some others
    → enclosed_descriptor_at at kind close (written ++ close ∷ others) ≡ Ok (record { kind = kind; name = name; disambiguator = [] }, others)
unfolding enclosed_descriptor_at
closed_again at kind close name written others t h n = rw (name_again at name written (close ∷ others) t h, n) refl

type_parameter_again : (at : ℕ) (name written others : List ℕ) → NameText name written → descriptor_at at (91 ∷ (written ++ 93 ∷ others)) ≡ Ok (record { kind = TypeParameter; name = name; disambiguator = [] }, others)
unfolding descriptor_at
type_parameter_again at name written others t = closed_again at TypeParameter 93 name written others t (refl, eqb-false 93 96 refl) refl

parameter_again : (at : ℕ) (name written others : List ℕ) → NameText name written → descriptor_at at (40 ∷ (written ++ 41 ∷ others)) ≡ Ok (record { kind = Parameter; name = name; disambiguator = [] }, others)
unfolding descriptor_at
parameter_again at name written others t = closed_again at Parameter 41 name written others t (refl, eqb-false 41 96 refl) refl

-- without a disambiguator
plain_again : (at : ℕ) (kind : DescriptorKind) (name written others : List ℕ) → NameText name written → kind ≢ Method
    → descriptor_at at (before_name kind ++ (written ++ (closing kind [] ++ others))) ≡ Ok (record { kind = kind; name = name; disambiguator = [] }, others)
plain_again at Namespace name written others t ne = told_again at Namespace 47 name written others t (refl, eqb-false 47 96 refl) refl refl
plain_again at TypeName name written others t ne = told_again at TypeName 35 name written others t (refl, eqb-false 35 96 refl) refl refl
plain_again at Term name written others t ne = told_again at Term 46 name written others t (refl, eqb-false 46 96 refl) refl refl
plain_again at Method name written others t ne = absurd (ne refl)
plain_again at Meta name written others t ne = told_again at Meta 58 name written others t (refl, eqb-false 58 96 refl) refl refl
plain_again at Macro name written others t ne = told_again at Macro 33 name written others t (refl, eqb-false 33 96 refl) refl refl
plain_again at TypeParameter name written others t ne = type_parameter_again at name written others t
plain_again at Parameter name written others t ne = parameter_again at name written others t

method_or : (kind : DescriptorKind) → (kind ≡ Method) ⊎ (kind ≢ Method)
method_or Namespace = inr (λ e. absurd cc)
method_or TypeName = inr (λ e. absurd cc)
method_or Term = inr (λ e. absurd cc)
method_or Method = inl refl
method_or Meta = inr (λ e. absurd cc)
method_or Macro = inr (λ e. absurd cc)
method_or TypeParameter = inr (λ e. absurd cc)
method_or Parameter = inr (λ e. absurd cc)

parts_again : (at : ℕ) (kind : DescriptorKind) (name disambiguator written others : List ℕ) → NameText name written → IsOfMethod kind disambiguator → are_simple disambiguator ≡ true
    → descriptor_at at (before_name kind ++ (written ++ (closing kind disambiguator ++ others))) ≡ Ok (record { kind = kind; name = name; disambiguator = disambiguator }, others)
parts_again at kind name disambiguator written others t m s =
    elim (method_or kind) [
      | inl e ↦ subst (λ (k : DescriptorKind). descriptor_at at (before_name k ++ (written ++ (closing k disambiguator ++ others))) ≡ Ok (record { kind = k; name = name; disambiguator = disambiguator }, others)) (sym e)
          (ap (λ (xs : List ℕ). descriptor_at at (written ++ (40 ∷ xs))) (append_assoc disambiguator (codes ").") others) ∙ method_again at name disambiguator written others t s)
      | inr ne ↦ subst (λ (d : List ℕ). descriptor_at at (before_name kind ++ (written ++ (closing kind d ++ others))) ≡ Ok (record { kind = kind; name = name; disambiguator = d }, others)) (sym (m ne))
          (plain_again at kind name written others t ne)
    ]

-- a descriptor that is written is read back, whatever follows it
pub descriptor_again : (at : ℕ) (d : DescriptorModel) (first others : List ℕ) → DescriptorText d first → descriptor_at at (first ++ others) ≡ Ok (d, others)
descriptor_again at d first others t =
    ap (λ (xs : List ℕ). descriptor_at at (xs ++ others)) t.whole
    ∙ ap (descriptor_at at) (append_assoc (before_name d.kind ++ t.name) (closing d.kind d.disambiguator) others ∙ append_assoc (before_name d.kind) t.name (closing d.kind d.disambiguator ++ others))
    ∙ parts_again at d.kind d.name d.disambiguator t.name others t.name_is t.of_method t.simple

-- ---- bytes that begin with no descriptor

closed_open : (at : ℕ) (kind : DescriptorKind) (close : ℕ) (inside : List ℕ) → IsUnended 96 inside → enclosed_descriptor_at at kind close (96 ∷ inside) ≡ Err faults.OpenQuote
unfolding enclosed_descriptor_at
closed_open at kind close inside u = rw (name_open at inside u) refl

bare_open : (at : ℕ) (inside : List ℕ) → IsUnended 96 inside → descriptor_at at (96 ∷ inside) ≡ Err faults.OpenQuote
unfolding descriptor_at bare_descriptor_at
bare_open at inside u = rw (name_open at inside u) refl

opening_open : (at : ℕ) (kind : DescriptorKind) (inside : List ℕ) → IsUnended 96 inside → descriptor_at at (before_name kind ++ 96 ∷ inside) ≡ Err faults.OpenQuote
unfolding descriptor_at
opening_open at Namespace inside u = bare_open at inside u
opening_open at TypeName inside u = bare_open at inside u
opening_open at Term inside u = bare_open at inside u
opening_open at Method inside u = bare_open at inside u
opening_open at Meta inside u = bare_open at inside u
opening_open at Macro inside u = bare_open at inside u
opening_open at TypeParameter inside u = closed_open at TypeParameter 93 inside u
opening_open at Parameter inside u = closed_open at Parameter 41 inside u

-- a name with an open backtick is an error
pub descriptor_open : (at : ℕ) (rest : List ℕ) → HasOpenQuote rest → descriptor_at at rest ≡ Err faults.OpenQuote
descriptor_open at rest q = ap (descriptor_at at) q.begins ∙ opening_open at q.kind q.inside q.open_is

-- the error of a string that begins with no descriptor
abbrev pub IsWrong : ℕ → List ℕ → SymbolFault → Type 0
IsWrong at rest e = (e ≡ faults.BadDescriptor at) ⊎ ((e ≡ faults.OpenQuote) × HasOpenQuote rest)

open_behind : (at : ℕ) (kind : DescriptorKind) (inside text : List ℕ) (e : SymbolFault) → text ≡ before_name kind ++ inside → (e ≡ faults.BadDescriptor at) ⊎ ((e ≡ faults.OpenQuote) × OpensQuote inside) → IsWrong at text e
open_behind at kind inside text e s (inl b) = inl b
open_behind at kind inside text e s (inr q) = inr (q.0, record { kind = kind; inside = q.1.inside; begins = s ∙ ap (λ (xs : List ℕ). before_name kind ++ xs) q.1.begins; open_is = q.1.open_is })

abbrev closes_to : DescriptorKind → List ℕ → List ℕ → DescriptorModel × List ℕ
closes_to kind name rest = (record { kind = kind; name = name; disambiguator = [] }, rest)

abbrev told_as : List ℕ → DescriptorKind × List ℕ → DescriptorModel × List ℕ
told_as name x = (record { kind = x.0; name = name; disambiguator = [] }, x.1)

abbrev method_as : List ℕ → List ℕ → List ℕ → DescriptorModel × List ℕ
method_as name disambiguator rest = (record { kind = Method; name = name; disambiguator = disambiguator }, rest)

missing : {A B : Type 0} (o : Option A) (d e : SymbolFault) (f : A → B) → ok_or o d >>= (λ x. Ok (f x)) ≡ Err e → e ≡ d
missing None d e f h = cc
missing (Some x) d e f h = absurd cc

closed_fails : (at : ℕ) (kind : DescriptorKind) (close : ℕ) (inside : List ℕ) (e : SymbolFault) → enclosed_descriptor_at at kind close inside ≡ Err e → (e ≡ faults.BadDescriptor at) ⊎ ((e ≡ faults.OpenQuote) × OpensQuote inside)
unfolding enclosed_descriptor_at
closed_fails at kind close inside e h = go (first_name_at at inside) refl h
  where
    go : (o : Result (List ℕ × List ℕ) SymbolFault) → first_name_at at inside ≡ o
        → o >>= (λ n. ok_or (after_byte close n.1) (faults.BadDescriptor at) >>= (λ rest. Ok (closes_to kind n.0 rest))) ≡ Err e
        → (e ≡ faults.BadDescriptor at) ⊎ ((e ≡ faults.OpenQuote) × OpensQuote inside)
    go (Err fault) s h = name_fails at inside e (s ∙ err_as fault e h)
    go (Ok n) s h = inl (missing (after_byte close n.1) (faults.BadDescriptor at) e (closes_to kind n.0) h)

suffixed_fails : (at : ℕ) (name text : List ℕ) (e : SymbolFault) → descriptor_suffix_at at name text ≡ Err e → e ≡ faults.BadDescriptor at
unfolding descriptor_suffix_at one_byte_suffix_at method_suffix_at
suffixed_fails at name text e h = go (after_byte 40 text) h
  where
    go : (o : Option (List ℕ)) → suffixed_after_paren at name o text ≡ Err e → e ≡ faults.BadDescriptor at
    go None h = missing (suffix_at text) (faults.BadDescriptor at) e (told_as name) h
    go (Some inside) h = missing (after_bytes (codes ").") (simple_prefix inside).1) (faults.BadDescriptor at) e (method_as name (simple_prefix inside).0) h

bare_fails : (at : ℕ) (text : List ℕ) (e : SymbolFault) → bare_descriptor_at at text ≡ Err e → IsWrong at text e
unfolding bare_descriptor_at
bare_fails at text e h = go (first_name_at at text) refl h
  where
    go : (o : Result (List ℕ × List ℕ) SymbolFault) → first_name_at at text ≡ o → o >>= (λ n. descriptor_suffix_at at n.0 n.1) ≡ Err e → IsWrong at text e
    go (Err fault) s h = open_behind at Term text text e refl (name_fails at text e (s ∙ err_as fault e h))
    go (Ok n) s h = inl (suffixed_fails at n.0 n.1 e h)

pub descriptor_fails : (at : ℕ) (text : List ℕ) (e : SymbolFault) → descriptor_at at text ≡ Err e → IsWrong at text e
unfolding descriptor_at
descriptor_fails at text e h = go (after_byte 91 text) (after_byte 40 text) refl refl h
  where
    go : (o p : Option (List ℕ)) → after_byte 91 text ≡ o → after_byte 40 text ≡ p → descriptor_after_mark at o p text ≡ Err e → IsWrong at text e
    go None None s r h = bare_fails at text e h
    go None (Some inside) s r h = open_behind at Parameter inside text e (after_some 40 text inside r) (closed_fails at Parameter 41 inside e h)
    go (Some inside) p s r h = open_behind at TypeParameter inside text e (after_some 91 text inside s) (closed_fails at TypeParameter 93 inside e h)
