-- The pass over all selectors.
use Rattle.std.proofs.Common.{◌≡◌, ℕ, zero, suc, ◌+◌, ◌⊎◌, inl, inr, List, [], ◌∷◌, ◌++◌, length, Bool, true, false, Option, Some, None, refl, sym, ap, ◌∙◌, subst, arith, add-one, length-append}
use Rattle.std.specs.Prelude.{slice_get}
use Rattle.module_table.specs.declared.rows.Selector.{Selector}
use Rattle.module_table.specs.declared.rows.Step.{Step}
use Rattle.module_table.specs.declared.rows.Step.TheVariants as steps
use Rattle.module_table.specs.declared.rows.TypeName.{TypeName}
use Rattle.ob_types.specs.SameDeclaration.{same}
use Rattle.ob_types.specs.Shapes.{shape}
use Rattle.ob_view.specs.World.{World}
use Rattle.type_graph.specs.Searches.{HasTarget}
use Rattle.ob_targets.specs.declared.designator_type.DesignatorType.{DesignatorType}
use Rattle.ob_view.specs.declared.target.Target.{Target}
use Rattle.ob_targets.specs.Targets.{target_type, use_target}
use Rattle.ob_targets.specs.Steps.{begins_designator, guard_type, Follows, IsTypeBefore, Levels, Selects, at_head, behind, to_field, to_elements, to_target, by_guard}
use Rattle.ob_resolve.specs.declared.selectors.SelectorResult.{SelectorResult}
use Rattle.ob_resolve.specs.Selected.{AreNamedTargets, IsTypeAfter, IsSelectorResult}

-- an element of a list with one more is an element of the list or the new one
get_push : {X : Type 0} (xs : List X) (x y : X) (i : ℕ) → slice_get (xs ++ x ∷ []) i ≡ Some y → (slice_get xs i ≡ Some y) ⊎ ((i ≡ length xs) × (x ≡ y))
get_push [] x y zero e = inr (refl, cc)
get_push [] x y (suc i) e = absurd (let f : None ≡ Some y = e in cc)
get_push (z ∷ xs) x y zero e = inl e
get_push (z ∷ xs) x y (suc i) e = elim (get_push xs x y i e) [ inl h ↦ inl h | inr h ↦ inr (ap suc h.0, h.1) ]

module _ (w : World) where
  -- the designator type before the first selector of a designator
  pub known_at_head : (selectors : List Selector) (position : ℕ) (s : Selector) (b : Bool) (t : Target) (o : DesignatorType) (v : World) → v ≡ w → selectors ≡ w.rows.selectors → slice_get selectors position ≡ Some s →
      b ≡ begins_designator selectors position s → b ≡ true → t ≡ use_target v s.of → o ≡ target_type w t → IsTypeBefore w position o
  known_at_head selectors position s b t o v same_world are there test is_first made_there known =
      let there' : slice_get w.rows.selectors position ≡ Some s = subst (λ (xs : List Selector). slice_get xs position ≡ Some s) are there in
      let first : begins_designator w.rows.selectors position s ≡ true = subst (λ (xs : List Selector). begins_designator xs position s ≡ true) are (sym test ∙ is_first) in
      let made : t ≡ use_target w s.of = subst (λ (u : World). t ≡ use_target u s.of) same_world made_there in
      rw (known, made) (at_head there' first)

  knows_next : (position : ℕ) (s : Selector) (o : DesignatorType) → slice_get w.rows.selectors position ≡ Some s → begins_designator w.rows.selectors position s ≡ false → IsTypeAfter w position o → IsTypeBefore w position o
  knows_next zero s o there other b = absurd (let f : true ≡ false = other in cc)
  knows_next (suc i) s o there other b = behind b.there there other b.is_type_before b.leads

  -- the designator type before a selector that isn't the first of its designator is the one after the previous selector
  pub known_behind : (selectors : List Selector) (position : ℕ) (s : Selector) (b : Bool) (o : DesignatorType) → selectors ≡ w.rows.selectors → slice_get selectors position ≡ Some s →
      b ≡ begins_designator selectors position s → b ≡ false → IsTypeAfter w position o → IsTypeBefore w position o
  known_behind selectors position s b o are there test is_other known =
      let there' : slice_get w.rows.selectors position ≡ Some s = subst (λ (xs : List Selector). slice_get xs position ≡ Some s) are there in
      let other : begins_designator w.rows.selectors position s ≡ false = subst (λ (xs : List Selector). begins_designator xs position s ≡ false) are (sym test ∙ is_other) in
      knows_next position s o there' other known

  -- the result of following one selector, by the kind of the selector
  pub led_to_field : (o : DesignatorType) (k : ℕ) (t : Target) (known : DesignatorType) → Selects w o k t → known ≡ target_type w t → IsSelectorResult w o (steps.Field k) (record { target = t; known = known })
  led_to_field o k t known selects is = rw is (record { names = selects; leads = to_field selects })

  pub led_to_elements : (o : DesignatorType) (s : Step) (c : ℕ) (t : Target) (known : DesignatorType) → s ≡ steps.Elements c → Levels w c o known → IsSelectorResult w o s (record { target = t; known = known })
  led_to_elements o s c t known is levels = rw is (record { names = tt; leads = to_elements levels })

  pub led_to_target : (o : DesignatorType) (s : Step) (t : Target) (known : DesignatorType) → s ≡ steps.Target → Follows (HasTarget same (shape w)) o known → IsSelectorResult w o s (record { target = t; known = known })
  led_to_target o s t known is follows = rw is (record { names = tt; leads = to_target follows })

  pub led_by_guard : (o : DesignatorType) (s : Step) (g : Option TypeName) (t : Target) (known : DesignatorType) → s ≡ steps.Arguments g → known ≡ guard_type w g → IsSelectorResult w o s (record { target = t; known = known })
  led_by_guard o s g t known is made = rw (is, made) (record { names = tt; leads = by_guard })

  -- the invariant of the pass over the selectors: those before this index have been followed
  pub record Passed (position : ℕ) (ts : List Target) (o : DesignatorType) : Type 0 where
    pub named : AreNamedTargets w position ts
    pub known : IsTypeAfter w position o

  pub nothing_passed : (ts : List Target) (o : DesignatorType) → ts ≡ [] → Passed 0 ts o
  nothing_passed ts o is = rw is (record { named = record { as_many = refl; each = λ i s t there none. absurd (let f : None ≡ Some t = none in cc) }; known = tt })

  pub one_passed : (selectors : List Selector) (position : ℕ) (s : Selector) (ts : List Target) (before o : DesignatorType) (step_result : SelectorResult) (v : World) → v ≡ w → selectors ≡ w.rows.selectors → slice_get selectors position ≡ Some s →
      Passed position ts o → IsTypeBefore w position before → IsSelectorResult v before s.step step_result → Passed (position + 1) (ts ++ step_result.target ∷ []) step_result.known
  one_passed selectors position s ts before o step_result v same_world are there_is p is_type_before is_led =
      let is : IsSelectorResult w before s.step step_result = subst (λ (u : World). IsSelectorResult u before s.step step_result) same_world is_led in
      let there : slice_get w.rows.selectors position ≡ Some s = subst (λ (xs : List Selector). slice_get xs position ≡ Some s) are there_is in
      rw (add-one position) (record {
        named = record {
          as_many = length-append ts (step_result.target ∷ []) ∙ omega (arith, p.named.as_many);
          each = λ i s' t at at_t. elim (get_push ts step_result.target t i at_t) [
            | inl earlier ↦ p.named.each i s' t at earlier
            | inr now ↦ (
                let place_is : i ≡ position = now.0 ∙ p.named.as_many in
                let both : Some s ≡ Some s' = sym there ∙ ap (slice_get w.rows.selectors) (sym place_is) ∙ at in
                let same_one : s ≡ s' = cc in
                rw (place_is, ← same_one, ← now.1) (record { before = before; is_type_before = is_type_before; names = is.names }))
          ];
        };
        known = record { selector = s; there = there; before = before; is_type_before = is_type_before; leads = is.leads };
      })
