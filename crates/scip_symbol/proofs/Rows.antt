-- Tests of descriptors, and their form in contracts.
use Rattle.std.proofs.Common.{◌≡◌, ℕ, ◌+◌, Bool, true, false, cond, eqb, length, List, [], ◌∷◌, Option, Some, refl, sym, ap, subst}
use Rattle.std.specs.Prelude.{◌||◌}
use Rattle.std.specs.List.{list_any, position_from}
use Rattle.scip_symbol.specs.declared.descriptor.Descriptor.{Descriptor}
use Rattle.scip_symbol.specs.SymbolTexts.{DescriptorModel}
use Rattle.scip_symbol.proofs.Answered.{none_from_length}
use Rattle.scip_symbol.specs.Outcomes.{is_empty}
use Rattle.scip_symbol.specs.Views.{descriptor_model, descriptor_models}

pub any_plain : (test : DescriptorModel → Bool) (ds : List Descriptor) → list_any (λ d. test (descriptor_model d)) ds ≡ list_any test (descriptor_models ds)
any_plain test [] = refl
any_plain test (d ∷ ds) = ap (λ (b : Bool). test (descriptor_model d) || b) (any_plain test ds)

pub position_plain : (test : DescriptorModel → Bool) (i : ℕ) (ds : List Descriptor) → position_from (λ d. test (descriptor_model d)) i ds ≡ position_from test i (descriptor_models ds)
position_plain test i [] = refl
position_plain test i (d ∷ ds) = ap (λ (o : Option ℕ). cond (test (descriptor_model d)) (Some i) o) (position_plain test (i + 1) ds)

pub nameless_empty : (ds : List Descriptor) → eqb (length ds) 0 ≡ true → true ≡ (is_empty (descriptor_models ds) || list_any (λ d. is_empty d.name) (descriptor_models ds))
nameless_empty ds e = subst (λ (xs : List Descriptor). true ≡ (is_empty (descriptor_models xs) || list_any (λ d. is_empty d.name) (descriptor_models xs))) (sym (none_from_length ds e)) refl

pub nameless_some : (ds : List Descriptor) → eqb (length ds) 0 ≡ false → list_any (λ d. is_empty (descriptor_model d).name) ds ≡ (is_empty (descriptor_models ds) || list_any (λ d. is_empty d.name) (descriptor_models ds))
nameless_some [] e = absurd cc
nameless_some (d ∷ ds) e = any_plain (λ p. is_empty p.name) (d ∷ ds)
