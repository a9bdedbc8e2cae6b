-- The indexes of common modules in two worlds, one of which has the modules of the other and all that they import.
use Rattle.std.proofs.Common.{◌≡◌, ℕ, List, [], ◌∷◌, Option, Some, None, refl, sym, ap, ◌∙◌, subst}
use Rattle.std.specs.Prelude.{slice_get}
use Rattle.std.specs.Option.{option_and_then}
use Rattle.std.specs.Str.{bytes_eq}
use Rattle.std.proofs.lemmas.List.Quantifiers.{position-Some}
use Rattle.std.proofs.lemmas.Option.{slice_get-get_or}
use Rattle.std.proofs.lemmas.Slice.Eq.{bytes_eq-Decides}
use Rattle.ob_interface.specs.Interfaces.{ModuleInterface}
use Rattle.ob_interface.specs.Placed.{module_named}
use Rattle.module_table.proofs.Elements.{contains_slice}
use Rattle.ob_types.specs.CommonModules.{IsCommonModule}
use Rattle.ob_view.specs.ModuleNumbers.{module_number_in}
use Rattle.ob_types.specs.Within.{AreWithin}
use Rattle.ob_view.specs.World.{World, module_number, aliased_module_name}
use Rattle.ob_types.proofs.CommonModules.{no_homes, module_numbers, AreHomesAlike, AreImportsAlike}

pub record IsPlaced (modules : List ModuleInterface) (k : ℕ) (name : List ℕ) : Type 0 where
  pub module_there : ModuleInterface
  pub at : slice_get modules k ≡ Some module_there
  pub named : module_there.name ≡ name

-- the index of a name is the index of a module of that name
pub placed : (modules : List ModuleInterface) (name : List ℕ) (k : ℕ) → module_number_in modules name ≡ Some k → IsPlaced modules k name
placed [] name k e = absurd (let f : None ≡ Some k = e in cc)
placed (m ∷ modules) name k e =
    let first = position-Some (λ (x : ModuleInterface). bytes_eq x.name name) (m ∷ modules) k m e in
    record { module_there = _; at = slice_get-get_or (m ∷ modules) k m first.0; named = (bytes_eq-Decides _ name).0 first.1 }

module _ (w v : World) (within : AreWithin v.reached w.reached) where
  -- a module that the world `w` finds by its name is also found by its name in the world `v`
  twin_of : (i : ℕ) (m : ModuleInterface) → slice_get w.reached i ≡ Some m → module_number w m.name ≡ Some i → (j : ℕ) × IsCommonModule w v i j
  unfolding module_number
  twin_of i m at named =
      let (j, l, e) = within.among m (contains_slice w.reached i m at) in
      let external : slice_get v.reached j ≡ Some m = slice_get-get_or v.reached j m l ∙ ap (λ (x : ModuleInterface). Some x) e in
      (j, record { common = m; here = at; external = external; index_in_first = named; index_in_second = within.named j m external })

  pub number_is : (i j : ℕ) (m : ModuleInterface) → slice_get w.reached i ≡ Some m → module_number w m.name ≡ Some i → module_number v m.name ≡ Some j → IsCommonModule w v i j
  number_is i j m at named is =
      let (k, t) = twin_of i m at named in
      let e : Some m ≡ Some t.common = sym at ∙ t.here in
      let same : m ≡ t.common = cc in
      let f : Some k ≡ Some j = sym t.index_in_second ∙ ap (λ (x : ModuleInterface). module_number v x.name) (sym same) ∙ is in
      subst (λ (n : ℕ). IsCommonModule w v i n) (let g : k ≡ j = cc in g) t

  home_placed : (name : List ℕ) (i : ℕ) → module_number w name ≡ Some i → IsPlaced w.reached i name
  unfolding module_number
  home_placed name i is = placed w.reached name i is

  -- if a name has an index in the world `w`, it has in the world `v` the index of the same module
  home_twin : (name : List ℕ) (i : ℕ) → module_number w name ≡ Some i → (j : ℕ) × (module_number v name ≡ Some j) × IsCommonModule w v i j
  home_twin name i is =
      let p = home_placed name i is in
      let (j, t) = twin_of i p.module_there p.at (ap (module_number w) p.named ∙ is) in
      let e : Some p.module_there ≡ Some t.common = sym p.at ∙ t.here in
      let same : p.module_there ≡ t.common = cc in
      (j, ap (module_number v) (sym p.named ∙ ap (λ (x : ModuleInterface). x.name) same) ∙ t.index_in_second, t)

  pub place_is : (i j : ℕ) (m : ModuleInterface) → slice_get v.reached j ≡ Some m → module_number w m.name ≡ Some i → IsCommonModule w v i j
  unfolding module_number
  place_is i j m at is =
      let (k, external, t) = home_twin m.name i is in
      let f : Some k ≡ Some j = sym external ∙ within.named j m at in
      subst (λ (n : ℕ). IsCommonModule w v i n) (let g : k ≡ j = cc in g) t

  home_both : (i : ℕ) (m : ModuleInterface) (alias name : List ℕ) (o p : Option ℕ) → slice_get w.reached i ≡ Some m → module_named m alias ≡ Some name → module_number w name ≡ o → module_number v name ≡ p → AreHomesAlike w v o p
  unfolding module_number
  home_both i m alias name None None at of here external = no_homes
  home_both i m alias name None (Some k) at of here external = absurd (within.closed m alias name k (contains_slice w.reached i m at) of external here)
  home_both i m alias name (Some k) p at of here external =
      let (j, is, t) = home_twin name k here in
      subst (λ (o : Option ℕ). AreHomesAlike w v (Some k) o) (sym is ∙ external) (module_numbers t)

  name_node : (i : ℕ) (alias name : List ℕ) (m : ModuleInterface) → slice_get w.reached i ≡ Some m → aliased_module_name w i alias ≡ Some name → module_named m alias ≡ Some name
  unfolding aliased_module_name
  name_node i alias name m at e = sym (ap (option_and_then (λ (x : ModuleInterface). module_named x alias)) at) ∙ e

  pub imports_alike : AreImportsAlike w v
  imports_alike i j alias name t e = home_both i t.common alias name (module_number w name) (module_number v name) t.here (name_node i alias name t.common t.here e) refl refl
