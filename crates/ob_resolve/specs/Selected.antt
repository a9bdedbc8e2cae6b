-- The targets of the names after dots, selector by selector.
use Rattle.std.specs.Prelude.{◌≡◌, ℕ, zero, suc, List, Some, length, slice_get}
use Rattle.module_table.specs.declared.rows.Selector.{Selector}
use Rattle.module_table.specs.declared.rows.Step.{Step}
use Rattle.module_table.specs.declared.rows.Step.TheVariants as steps
use Rattle.ob_view.specs.World.{World}
use Rattle.ob_targets.specs.declared.designator_type.DesignatorType.{DesignatorType}
use Rattle.ob_view.specs.declared.target.Target.{Target}
use Rattle.ob_targets.specs.Steps.{IsTypeBefore, StepsTo, Selects}
use Rattle.ob_resolve.specs.declared.selectors.SelectorResult.{SelectorResult}

-- if the selector is a dot and a name, and `o` is the designator type before it, the name denotes the target `t`
abbrev pub Names : World → DesignatorType → Step → Target → Type 0
Names w o (steps.Field k) t = Selects w o k t
Names w o (steps.Elements n) t = Unit {0}
Names w o steps.Target t = Unit {0}
Names w o (steps.Arguments g) t = Unit {0}

-- let `o` be the designator type before the selector `s`. Then the result has the target of the selector's name, if it has one, and the
-- designator type after the selector
pub record IsSelectorResult (w : World) (o : DesignatorType) (s : Step) (step_result : SelectorResult) : Type 0 where
  pub names : Names w o s step_result.target
  pub leads : StepsTo w o s step_result.known

-- the name of the selector `s` at index `i`, if it has a name, denotes the target `t`
pub record IsNamed (w : World) (i : ℕ) (s : Step) (t : Target) : Type 0 where
  pub before : DesignatorType
  pub is_type_before : IsTypeBefore w i before
  pub names : Names w before s t

-- the list has an element for each of the first `count` selectors: the target of the selector's name, or any target if it has no name
pub record AreNamedTargets (w : World) (count : ℕ) (ts : List Target) : Type 0 where
  pub as_many : length ts ≡ count
  pub each : (i : ℕ) (s : Selector) (t : Target) → slice_get w.rows.selectors i ≡ Some s → slice_get ts i ≡ Some t → IsNamed w i s.step t

-- `o` is the designator type after the selector at index `i`
pub record IsTypeAfterSelector (w : World) (i : ℕ) (o : DesignatorType) : Type 0 where
  pub selector : Selector
  pub there : slice_get w.rows.selectors i ≡ Some selector
  pub before : DesignatorType
  pub is_type_before : IsTypeBefore w i before
  pub leads : StepsTo w before selector.step o

-- `o` is the designator type after the selector before this index. At index 0 there is no such selector, and `o` is any designator type
abbrev pub IsTypeAfter : World → ℕ → DesignatorType → Type 0
IsTypeAfter w zero o = Unit {0}
IsTypeAfter w (suc i) o = IsTypeAfterSelector w i o
