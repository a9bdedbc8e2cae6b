-- Keys that are pairs of numbers, in entries.
use Rattle.std.proofs.Common.{◌≡◌, ℕ, eqb, ◌&&◌, Bool, true, false, List, Option, Some, None, refl, sym, ap, ◌∙◌}
use Rattle.std.specs.Prelude.{is_some, Contains}
use Rattle.std.specs.Map.{keys_of, lookup}
use Rattle.std.specs.Cmp.{IsEquivalence, nat_eq_equiv}
use Rattle.std.proofs.lemmas.Bool.{and_parts, and_from, eqb-true, false≢true}
use Rattle.std.proofs.lemmas.Map.Views.{IsSome-lookup_from_Contains, Contains-keys_from_lookup}

abbrev pub same_pair : ℕ × ℕ → ℕ × ℕ → Bool
same_pair x y = eqb x.0 y.0 && eqb x.1 y.1

exact : (x y : ℕ × ℕ) → same_pair x y ≡ true → x ≡ y
exact x y e =
    let p = and_parts _ _ e in
    let first : x.0 ≡ y.0 = eqb-true _ _ p.0 in
    let second : x.1 ≡ y.1 = eqb-true _ _ p.1 in
    ap (λ (t : ℕ). (t, x.1)) first ∙ ap (λ (t : ℕ). (y.0, t)) second

laws : IsEquivalence same_pair
laws = record {
  refl = λ x. and_from _ _ (nat_eq_equiv.refl x.0) (nat_eq_equiv.refl x.1);
  symm = λ x y. rw (nat_eq_equiv.symm x.0 y.0, nat_eq_equiv.symm x.1 y.1) refl;
  congr = λ x y z e. ap (λ (t : ℕ × ℕ). same_pair t z) (exact x y e);
}

pub key_there : {X : Type 0} (es : List ((ℕ × ℕ) × X)) (key : ℕ × ℕ) (o : Option X) → o ≡ lookup (same_pair key) es → is_some o ≡ true → Contains (keys_of es) key
key_there es key o e some = Contains-keys_from_lookup exact key es (ap is_some (sym e) ∙ some)

pub key_none : {X : Type 0} (es : List ((ℕ × ℕ) × X)) (key : ℕ × ℕ) (o : Option X) → o ≡ lookup (same_pair key) es → is_some o ≡ false → lookup (same_pair key) es ≡ None
key_none es key None e none = sym e
key_none es key (Some x) e none = absurd cc

pub key_absent : {X : Type 0} (es : List ((ℕ × ℕ) × X)) (key : ℕ × ℕ) (o : Option X) → o ≡ lookup (same_pair key) es → is_some o ≡ false → Contains (keys_of es) key → ⊥
key_absent es key o e none present = false≢true (sym none ∙ ap is_some e ∙ IsSome-lookup_from_Contains laws key es present)
