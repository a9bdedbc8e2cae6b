-- A sequence of descriptors, read from its start.
use Rattle.std.proofs.Common.{◌≡◌, ℕ, List, [], ◌∷◌, ◌++◌, refl, sym, ap, ◌∙◌, append_assoc}
use Rattle.std.proofs.lemmas.List.{append-nil, map-append}
use Rattle.scip_symbol.specs.declared.descriptor.Descriptor.{Descriptor}
use Rattle.scip_symbol.specs.Views.{descriptor_model, descriptor_models}
use Rattle.scip_symbol.specs.SymbolTexts.{DescriptorModel, DescriptorText, DescriptorTexts}

-- the string begins with these descriptors, and continues with the rest
pub record IsReadTo (text : List ℕ) (ds : List DescriptorModel) (rest : List ℕ) : Type 0 where
  pub front : List ℕ
  pub front_is : DescriptorTexts ds front
  pub split : text ≡ front ++ rest

pub texts-push : (ds : List DescriptorModel) (d : DescriptorModel) (front first : List ℕ) → DescriptorTexts ds front → DescriptorText d first → DescriptorTexts (ds ++ d ∷ []) (front ++ first)
texts-push [] d front first e t = (first, [], t, refl, ap (λ (xs : List ℕ). xs ++ first) e ∙ sym (append-nil first))
texts-push (x ∷ ds) d front first t u = (t.0, t.1 ++ first, t.2, texts-push ds d t.1 first t.3 u, ap (λ (xs : List ℕ). xs ++ first) t.4 ∙ append_assoc t.0 t.1 first)

pub read_more : (text : List ℕ) (ds : List DescriptorModel) (d : DescriptorModel) (rest first after : List ℕ) → IsReadTo text ds rest → DescriptorText d first → rest ≡ first ++ after → IsReadTo text (ds ++ d ∷ []) after
read_more text ds d rest first after r t e = record {
  front = r.front ++ first;
  front_is = texts-push ds d r.front first r.front_is t;
  split = r.split ∙ ap (λ (xs : List ℕ). r.front ++ xs) e ∙ sym (append_assoc r.front first after);
}

pub plain_pushed : (ds : List Descriptor) (d : Descriptor) → descriptor_models (ds ++ d ∷ []) ≡ descriptor_models ds ++ descriptor_model d ∷ []
plain_pushed ds d = map-append descriptor_model ds (d ∷ [])
