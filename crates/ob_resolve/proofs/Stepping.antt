-- A step of a designator, by what the searches for types find.
use Rattle.std.proofs.Common.{◌≡◌, ℕ, List, [], Bool, Option, Some, None, subst}
use Rattle.std.specs.Prelude.{IfSome, IfNone}
use Rattle.type_graph.specs.Searches.{DenotesField}
use Rattle.ob_types.specs.declared.nodes.Node.{Node}
use Rattle.ob_types.specs.declared.nodes.Named.{Named}
use Rattle.ob_types.specs.declared.nodes.Field.{Field}
use Rattle.ob_view.specs.World.{World, text}
use Rattle.ob_types.specs.contracts.nodes.NamedPartialEq.TheImpl as derived
use Rattle.ob_types.specs.SameDeclaration.{same}
use Rattle.ob_types.specs.Shapes.{shape, field_of, base_of}
use Rattle.ob_types.proofs.SameDeclaration.{eq_is_same}
use Rattle.ob_view.specs.declared.target.Target.{Target}
use Rattle.ob_view.specs.declared.target.Target.TheVariants as targets
use Rattle.ob_targets.specs.declared.designator_type.DesignatorType.{DesignatorType}
use Rattle.ob_targets.specs.declared.designator_type.DesignatorType.TheVariants as knowns
use Rattle.ob_targets.specs.Targets.{field_target, exported_target}
use Rattle.ob_targets.specs.Steps.{Follows, Selects, exported, field, no_field, unknown, there, nowhere, of_module, of_nothing}

module _ (w : World) (n : Node) (k : ℕ) (name : List ℕ) (o : Option Field) (is_text : name ≡ text w k) where
  -- a field is found by the derived == of declarations
  IsThere : (Named → Named → Bool) → List ℕ → Field → Type 0
  IsThere eq name f = DenotesField eq (shape w) (λ r. field_of w r name) (base_of w) [] n f

  pub field_found : (f : Field) (t : Target) → o ≡ Some f → t ≡ field_target f →
      IfSome o (λ f. DenotesField (derived.eq-value).it (shape w) (λ r. field_of w r name) (base_of w) [] n f) → Selects w (knowns.Typed n) k t
  unfolding IsThere
  field_found f t is made found =
      let here : IsThere (derived.eq-value).it name f = rw is at found in
      let it : IsThere same (text w k) f = subst (λ (x : List ℕ). IsThere same x f) is_text (subst (λ (eq : Named → Named → Bool). IsThere eq name f) eq_is_same here) in
      rw made (field it)

  pub field_missed : o ≡ None → IfNone o ((f : Field) → DenotesField (derived.eq-value).it (shape w) (λ r. field_of w r name) (base_of w) [] n f → ⊥) → Selects w (knowns.Typed n) k targets.Unresolved
  unfolding IsThere
  field_missed is missed =
      let here : (f : Field) → IsThere (derived.eq-value).it name f → ⊥ = rw is at missed in
      no_field (subst (λ (x : List ℕ). (f : Field) → IsThere same x f → ⊥) is_text (subst (λ (eq : Named → Named → Bool). (f : Field) → IsThere eq name f → ⊥) eq_is_same here))

module _ (w : World) (o : DesignatorType) (k : ℕ) where
  pub selects_nothing : o ≡ knowns.Nothing → Selects w o k targets.Unresolved
  selects_nothing is = rw is unknown

  pub selects_exported : (at : ℕ) (t : Target) → o ≡ knowns.«Module» at → t ≡ exported_target w at k → Selects w o k t
  selects_exported at t is made = rw (is, made) exported

module _ (Leads : Node → Node → Type 0) (o : DesignatorType) where
  pub follows_nothing : o ≡ knowns.Nothing → Follows Leads o knowns.Nothing
  follows_nothing is = rw is of_nothing

  pub follows_module : (at : ℕ) → o ≡ knowns.«Module» at → Follows Leads o knowns.Nothing
  follows_module at is = rw is of_module

module _ (Leads : (Named → Named → Bool) → Node → Node → Type 0) (o : DesignatorType) where
  pub follows_there : (n m : Node) (found : Option Node) → o ≡ knowns.Typed n → found ≡ Some m → IfSome found (Leads (derived.eq-value).it n) → Follows (Leads same) o (knowns.Typed m)
  follows_there n m found is is_found leads =
      let here : Leads (derived.eq-value).it n m = rw is_found at leads in
      rw is (there (subst (λ (eq : Named → Named → Bool). Leads eq n m) eq_is_same here))

  pub follows_nowhere : (n : Node) (found : Option Node) → o ≡ knowns.Typed n → found ≡ None → IfNone found ((m : Node) → Leads (derived.eq-value).it n m → ⊥) → Follows (Leads same) o knowns.Nothing
  follows_nowhere n found is is_found missed =
      let here : (m : Node) → Leads (derived.eq-value).it n m → ⊥ = rw is_found at missed in
      rw is (nowhere (subst (λ (eq : Named → Named → Bool). (m : Node) → Leads eq n m → ⊥) eq_is_same here))
