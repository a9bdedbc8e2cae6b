-- A string begins with one sequence of descriptors.
use Rattle.std.proofs.Common.{◌≡◌, ℕ, List, [], ◌∷◌, ◌++◌, length, Result, Ok, refl, sym, ap, subst, ◌∙◌, arith, append_assoc, length-append}
use Rattle.std.proofs.lemmas.Bool.{eqb-false}
use Rattle.scip_symbol.specs.declared.kind.DescriptorKind.{DescriptorKind}
use Rattle.scip_symbol.specs.declared.kind.DescriptorKind.TheVariants.{Namespace, TypeName, Term, Method, Meta, Macro, TypeParameter, Parameter}
use Rattle.scip_symbol.specs.declared.fault.SymbolFault.{SymbolFault}
use Rattle.scip_symbol.specs.Bytes.{IsNotFirst}
use Rattle.scip_symbol.specs.SymbolTexts.{DescriptorModel, before_name, closing, NameText, DescriptorText, DescriptorTexts}
use Rattle.scip_symbol.specs.Outcomes.{HasNoDescriptor}
use Rattle.scip_symbol.specs.Reading.{descriptor_at}
use Rattle.scip_symbol.proofs.Answered.{ok_same}
use Rattle.scip_symbol.proofs.Ends.{after_none}
use Rattle.scip_symbol.proofs.Names.{name_begins}
use Rattle.scip_symbol.proofs.DescriptorLaws.{descriptor_some, descriptor_again}

pub nothing_begins : HasNoDescriptor []
nothing_begins d first others t s = absurd (omega (arith, descriptor_some d first t, ap length s, length-append first others))

same_read : (d e : DescriptorModel) (r s : List ℕ) → ◌≡◌ {A = Result (DescriptorModel × List ℕ) SymbolFault} (Ok (d, r)) (Ok (e, s)) → (d ≡ e) × (r ≡ s)
same_read d e r s h =
    let pair = ok_same (d, r) (e, s) h in
    (ap (λ (x : DescriptorModel × List ℕ). x.0) pair, ap (λ (x : DescriptorModel × List ℕ). x.1) pair)

pub row_once : (ds es : List DescriptorModel) (f g r s : List ℕ) → DescriptorTexts ds f → DescriptorTexts es g → f ++ r ≡ g ++ s → HasNoDescriptor r → HasNoDescriptor s → (ds ≡ es) × (r ≡ s)
row_once [] [] f g r s t u e h k = (refl, sym (ap (λ (x : List ℕ). x ++ r) t) ∙ e ∙ ap (λ (x : List ℕ). x ++ s) u)
row_once [] (d ∷ es) f g r s t u e h k =
    absurd (h d u.0 (u.1 ++ s) u.2 (sym (ap (λ (x : List ℕ). x ++ r) t) ∙ e ∙ ap (λ (x : List ℕ). x ++ s) u.4 ∙ append_assoc u.0 u.1 s))
row_once (d ∷ ds) [] f g r s t u e h k =
    absurd (k d t.0 (t.1 ++ r) t.2 (sym (ap (λ (x : List ℕ). x ++ s) u) ∙ sym e ∙ ap (λ (x : List ℕ). x ++ r) t.4 ∙ append_assoc t.0 t.1 r))
row_once (d ∷ ds) (d' ∷ es) f g r s t u e h k =
    let left : f ++ r ≡ t.0 ++ (t.1 ++ r) = ap (λ (x : List ℕ). x ++ r) t.4 ∙ append_assoc t.0 t.1 r in
    let right : g ++ s ≡ u.0 ++ (u.1 ++ s) = ap (λ (x : List ℕ). x ++ s) u.4 ∙ append_assoc u.0 u.1 s in
    let same = same_read d d' (t.1 ++ r) (u.1 ++ s)
    (sym (descriptor_again 0 d t.0 (t.1 ++ r) t.2) ∙ ap (descriptor_at 0) (sym left ∙ e ∙ right) ∙ descriptor_again 0 d' u.0 (u.1 ++ s) u.2) in
    let rest = row_once ds es t.1 u.1 r s t.3 u.3 same.1 h k in
    (ap (λ (x : DescriptorModel). x ∷ ds) same.0 ∙ ap (λ (xs : List DescriptorModel). d' ∷ xs) rest.0, rest.1)

-- a descriptor doesn't begin with a space
opens : (kind : DescriptorKind) (name written rest : List ℕ) → NameText name written → IsNotFirst 32 (before_name kind ++ (written ++ rest))
opens Namespace name written rest t = after_none 32 (written ++ rest) (name_begins 32 name written rest refl (eqb-false 32 96 refl) t)
opens TypeName name written rest t = after_none 32 (written ++ rest) (name_begins 32 name written rest refl (eqb-false 32 96 refl) t)
opens Term name written rest t = after_none 32 (written ++ rest) (name_begins 32 name written rest refl (eqb-false 32 96 refl) t)
opens Method name written rest t = after_none 32 (written ++ rest) (name_begins 32 name written rest refl (eqb-false 32 96 refl) t)
opens Meta name written rest t = after_none 32 (written ++ rest) (name_begins 32 name written rest refl (eqb-false 32 96 refl) t)
opens Macro name written rest t = after_none 32 (written ++ rest) (name_begins 32 name written rest refl (eqb-false 32 96 refl) t)
opens TypeParameter name written rest t = eqb-false 91 32 refl
opens Parameter name written rest t = eqb-false 40 32 refl

descriptor_first : (d : DescriptorModel) (first others : List ℕ) → DescriptorText d first → IsNotFirst 32 (first ++ others)
descriptor_first d first others t =
    let split : first ++ others ≡ before_name d.kind ++ (t.name ++ (closing d.kind d.disambiguator ++ others)) =
    ap (λ (x : List ℕ). x ++ others) t.whole ∙ append_assoc (before_name d.kind ++ t.name) (closing d.kind d.disambiguator) others ∙ append_assoc (before_name d.kind) t.name (closing d.kind d.disambiguator ++ others) in
    subst (λ (x : List ℕ). IsNotFirst 32 x) (sym split) (opens d.kind d.name t.name (closing d.kind d.disambiguator ++ others) t.name_is)

pub row_first : (ds : List DescriptorModel) (text : List ℕ) → DescriptorTexts ds text → IsNotFirst 32 text
row_first [] text t = subst (λ (x : List ℕ). IsNotFirst 32 x) (sym t) tt
row_first (d ∷ ds) text t = subst (λ (x : List ℕ). IsNotFirst 32 x) (sym t.4) (descriptor_first d t.0 t.1 t.2)
