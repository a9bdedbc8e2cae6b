-- A designator has one designator type before each selector.
use Rattle.std.proofs.Common.{◌≡◌, ℕ, suc, [], true, false, Some, refl, sym, ap, ◌∙◌, subst}
use Rattle.std.specs.Prelude.{slice_get}
use Rattle.type_graph.proofs.Finding.{finds_once}
use Rattle.type_graph.proofs.Opening.{element_once, target_once}
use Rattle.type_graph.specs.Searches.{HasElement, HasTarget}
use Rattle.module_table.specs.declared.rows.Selector.{Selector}
use Rattle.module_table.specs.declared.rows.Step.{Step}
use Rattle.ob_types.specs.declared.nodes.Field.{Field}
use Rattle.ob_types.specs.declared.nodes.Node.{Node}
use Rattle.ob_view.specs.World.{World, text}
use Rattle.ob_types.specs.SameDeclaration.{same}
use Rattle.ob_types.specs.Shapes.{shape, field_of, base_of}
use Rattle.ob_targets.specs.declared.designator_type.DesignatorType.{DesignatorType}
use Rattle.ob_targets.specs.declared.designator_type.DesignatorType.TheVariants as knowns
use Rattle.ob_view.specs.declared.target.Target.{Target}
use Rattle.ob_targets.specs.Targets.{field_target, target_type, use_target}
use Rattle.ob_targets.specs.Steps.{begins_designator, FindsField, Follows, IsTypeBefore, StepsTo, Levels, Selects, there, nowhere, of_module, of_nothing, exported, field, no_field, unknown, none, one, to_field, to_elements, to_target, by_guard, at_head, behind}

follows_once : (Leads : Node → Node → Type 0) → ((n x y : Node) → Leads n x → Leads n y → x ≡ y) → (o a b : DesignatorType) → Follows Leads o a → Follows Leads o b → a ≡ b
follows_once Leads once o a b (there {n = n} {m = x} p) (there {m = y} q) = ap knowns.Typed (once n x y p q)
follows_once Leads once o a b (there {m = x} p) (nowhere q) = absurd (q x p)
follows_once Leads once o a b (nowhere p) (there {m = y} q) = absurd (p y q)
follows_once Leads once o a b (nowhere p) (nowhere q) = refl
follows_once Leads once o a b of_module of_module = refl
follows_once Leads once o a b of_nothing of_nothing = refl

module _ (w : World) where
  field_found_once : (n : Node) (k : ℕ) (f g : Field) → FindsField w n (text w k) f → FindsField w n (text w k) g → f ≡ g
  field_found_once n k f g p q = finds_once same (shape w) (λ r. field_of w r (text w k)) (base_of w) [] n f g p q

  pub selects_once : (o : DesignatorType) (k : ℕ) (t u : Target) → Selects w o k t → Selects w o k u → t ≡ u
  selects_once o k t u exported exported = refl
  selects_once o k t u (field {n = n} {f = f} p) (field {f = g} q) = ap field_target (field_found_once n k f g p q)
  selects_once o k t u (field {f = f} p) (no_field q) = absurd (q f p)
  selects_once o k t u (no_field p) (field {f = g} q) = absurd (p g q)
  selects_once o k t u (no_field p) (no_field q) = refl
  selects_once o k t u unknown unknown = refl

  levels_once : (c : ℕ) (o a b : DesignatorType) → Levels w c o a → Levels w c o b → a ≡ b
  levels_once c o a b none none = refl
  levels_once c o a b (one {c = d} {next = x} p f) (one {next = y} q g) =
      let before : x ≡ y = levels_once d o x y p q in
      follows_once (HasElement same (shape w)) (element_once same (shape w)) x a b f (subst (λ (v : DesignatorType). Follows (HasElement same (shape w)) v b) (sym before) g)

  leads_once : (o : DesignatorType) (s : Step) (a b : DesignatorType) → StepsTo w o s a → StepsTo w o s b → a ≡ b
  leads_once o s a b (to_field {k = k} {t = t} p) (to_field {t = u} q) = ap (target_type w) (selects_once o k t u p q)
  leads_once o s a b (to_elements {c = c} p) (to_elements q) = levels_once c o a b p q
  leads_once o s a b (to_target p) (to_target q) = follows_once (HasTarget same (shape w)) (target_once same (shape w)) o a b p q
  leads_once o s a b by_guard by_guard = refl

  -- one selector is at an index
  one_selector : (i : ℕ) (s t : Selector) → slice_get w.rows.selectors i ≡ Some s → slice_get w.rows.selectors i ≡ Some t → s ≡ t
  one_selector i s t p q = let e : Some s ≡ Some t = sym p ∙ q in cc

  begins_or_not : (i : ℕ) (s t : Selector) → slice_get w.rows.selectors i ≡ Some s → slice_get w.rows.selectors i ≡ Some t →
      begins_designator w.rows.selectors i s ≡ true → begins_designator w.rows.selectors i t ≡ false → ⊥
  begins_or_not i s t p q first other =
      let is : s ≡ t = one_selector i s t p q in
      let e : true ≡ false = sym first ∙ ap (begins_designator w.rows.selectors i) is ∙ other in
      cc

  pub knows_once : (i : ℕ) (a b : DesignatorType) → IsTypeBefore w i a → IsTypeBefore w i b → a ≡ b
  knows_once i a b (at_head {s = s} p first) (at_head {s = t} q other) = ap (λ (v : Selector). target_type w (use_target w v.of)) (one_selector i s t p q)
  knows_once i a b (at_head {s = s} p first) (behind {i = j} {t = t} before q other known leads) = absurd (begins_or_not (suc j) s t p q first other)
  knows_once i a b (behind {i = j} {t = t} before q other known leads) (at_head {s = s} p first) = absurd (begins_or_not (suc j) s t p q first other)
  knows_once i a b (behind {i = j} {s = s} {o = o} at_s p first known leads) (behind {s = t} {o = u} at_t q other knows led) =
      let is : t ≡ s = one_selector j t s at_t at_s in
      let before : o ≡ u = knows_once j o u known knows in
      leads_once o s.step a b leads (subst (λ (v : DesignatorType). StepsTo w v s.step b) (sym before) (subst (λ (v : Selector). StepsTo w u v.step b) is led))
