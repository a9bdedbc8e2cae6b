-- The canonical string of a symbol is a string of it, and the shortest.
use Rattle.std.proofs.Common.{◌≡◌, ◌⊎◌, ℕ, ◌<◌, ◌≤◌, List, [], ◌∷◌, ◌++◌, length, Ok, refl, sym, ap, subst, ◌∙◌, inl, inr, arith, length-append}
use Rattle.std.specs.List.{flat_map}
use Rattle.std.proofs.lemmas.Bool.{cases_Bool, cases_eq, eq-eqb, ne_eqb, both_ways}
use Rattle.scip_symbol.specs.Bytes.{doubled}
use Rattle.scip_symbol.specs.SymbolTexts.{DescriptorModel, SymbolModel, Local, Global, are_simple, NameText, canonical_name, before_name, closing, DescriptorText, DescriptorTexts, canonical_descriptor_text, parts_text, SymbolText, canonical_text}
use Rattle.scip_symbol.proofs.Answered.{ok_same}
use Rattle.scip_symbol.proofs.WriteLaws.{plain_name_text}
use Rattle.scip_symbol.proofs.OneReading.{outcome_once}

-- ---- at most one symbol has a string

pub symbol_once : (text : List ℕ) (s t : SymbolModel) → SymbolText s text → SymbolText t text → s ≡ t
symbol_once text s t i k = ok_same s t (outcome_once text (Ok s) (Ok t) i k)

pub texts_apart : (s t : SymbolModel) → SymbolText s (canonical_text s) → SymbolText t (canonical_text t) → canonical_text s ≡ canonical_text t → s ≡ t
texts_apart s t i k e = symbol_once (canonical_text t) s t (subst (λ (x : List ℕ). SymbolText s x) e i) k

-- ---- names

-- shorter than this string, or equal
abbrev IsLeast : List ℕ → List ℕ → Type 0
IsLeast plain text = (text ≡ plain) ⊎ (length plain < length text)

doubled_longer : (delimiter : ℕ) (bytes : List ℕ) → length bytes ≤ length (doubled delimiter bytes)
doubled_longer delimiter [] = omega arith
doubled_longer delimiter (b ∷ bytes) =
    elim (cases_eq b delimiter) [
      | inl e ↦ rw (eq-eqb b delimiter e) (omega (arith, doubled_longer delimiter bytes))
      | inr ne ↦ rw (ne_eqb b delimiter ne) (omega (arith, doubled_longer delimiter bytes))
    ]

plain_name_least : (name text : List ℕ) → NameText name text → IsLeast (canonical_name name) text
plain_name_least name text t =
    elim (cases_Bool (are_simple name)) [
      | inl e ↦ rw e (elim (t.written) [
        | inl s ↦ inl s.1
        | inr q ↦ inr (omega (arith, ap length q, length-append (96 ∷ doubled 96 name) (96 ∷ []), doubled_longer 96 name))
      ])
      | inr e ↦ rw e (elim (t.written) [
        | inl s ↦ absurd (both_ways (are_simple name) e s.0.simple)
        | inr q ↦ inl q
      ])
    ]

-- ---- descriptors

around_least : (before after plain text : List ℕ) → IsLeast plain text → IsLeast (before ++ plain ++ after) (before ++ text ++ after)
around_least before after plain text (inl e) = inl (ap (λ (x : List ℕ). before ++ x ++ after) e)
around_least before after plain text (inr lt) =
    inr (omega (arith, length-append (before ++ plain) after, length-append before plain, length-append (before ++ text) after, length-append before text))

row_least : (a b x y : List ℕ) → IsLeast a x → IsLeast b y → IsLeast (a ++ b) (x ++ y)
row_least a b x y (inl e) (inl f) = inl (ap (λ (t : List ℕ). t ++ y) e ∙ ap (λ (t : List ℕ). a ++ t) f)
row_least a b x y (inl e) (inr g) = inr (omega (arith, ap length e, length-append a b, length-append x y))
row_least a b x y (inr l) (inl f) = inr (omega (arith, ap length f, length-append a b, length-append x y))
row_least a b x y (inr l) (inr g) = inr (omega (arith, length-append a b, length-append x y))

descriptor_plain : (d : DescriptorModel) (text : List ℕ) → DescriptorText d text → DescriptorText d (canonical_descriptor_text d)
descriptor_plain d text t = record { name = canonical_name d.name; name_is = plain_name_text d.name t.name_is.some; of_method = t.of_method; simple = t.simple; whole = refl }

descriptor_least : (d : DescriptorModel) (text : List ℕ) → DescriptorText d text → IsLeast (canonical_descriptor_text d) text
descriptor_least d text t =
    subst (λ (x : List ℕ). IsLeast (canonical_descriptor_text d) x) (sym t.whole) (around_least (before_name d.kind) (closing d.kind d.disambiguator) (canonical_name d.name) t.name (plain_name_least d.name t.name t.name_is))

row_plain : (ds : List DescriptorModel) (text : List ℕ) → DescriptorTexts ds text → DescriptorTexts ds (flat_map canonical_descriptor_text ds)
row_plain [] text t = refl
row_plain (d ∷ ds) text t = (canonical_descriptor_text d, flat_map canonical_descriptor_text ds, descriptor_plain d t.0 t.2, row_plain ds t.1 t.3, refl)

row_is_least : (ds : List DescriptorModel) (text : List ℕ) → DescriptorTexts ds text → IsLeast (flat_map canonical_descriptor_text ds) text
row_is_least [] text t = inl t
row_is_least (d ∷ ds) text t =
    subst (λ (x : List ℕ). IsLeast (canonical_descriptor_text d ++ flat_map canonical_descriptor_text ds) x) (sym t.4)
    (row_least (canonical_descriptor_text d) (flat_map canonical_descriptor_text ds) t.0 t.1 (descriptor_least d t.0 t.2) (row_is_least ds t.1 t.3))

-- ---- symbols

pub plain_is_text : (s : SymbolModel) (text : List ℕ) → SymbolText s text → SymbolText s (canonical_text s)
plain_is_text (Local id) text t = (t.0, refl)
plain_is_text (Global scheme m p v ds) text t = record {
  scheme_is = t.scheme_is;
  not_local = t.not_local;
  manager_is = t.manager_is;
  package_is = t.package_is;
  version_is = t.version_is;
  some = t.some;
  rest = flat_map canonical_descriptor_text ds;
  rest_is = row_plain ds t.rest t.rest_is;
  whole = refl;
}

pub plain_is_least : (s : SymbolModel) (text : List ℕ) → SymbolText s text → (text ≡ canonical_text s) ⊎ (length (canonical_text s) < length text)
plain_is_least (Local id) text t = inl t.1
plain_is_least (Global scheme m p v ds) text t =
    subst (λ (x : List ℕ). IsLeast (canonical_text (Global scheme m p v ds)) x) (sym t.whole)
    (row_least (parts_text scheme m p v) (flat_map canonical_descriptor_text ds) (parts_text scheme m p v) t.rest (inl refl) (row_is_least ds t.rest t.rest_is))
