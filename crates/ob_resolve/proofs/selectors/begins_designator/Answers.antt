-- The first selector of all, one after an index without a selector, and one after another selector.
use Rattle.std.proofs.Common.{◌≡◌, ℕ, zero, suc, ◌-◌, ◌≤◌, List, Option, Some, None, true, not, refl, sym, ap, ◌∙◌, arith}
use Rattle.std.specs.Prelude.{◌==◌, slice_get}
use Rattle.std.proofs.lemmas.Option.{slice_get_past, slice_get_read}
use Rattle.module_table.specs.declared.rows.Selector.{Selector}
use Rattle.ob_targets.specs.Steps.{begins_designator}
use Rattle.ob_resolve.proofs.selectors.begins_designator.Goals as goal

first_of_all : (ss : List Selector) (p : ℕ) (s : Selector) → (1 ≤ p → ⊥) → true ≡ begins_designator ss p s
first_of_all ss zero s none = refl
first_of_all ss (suc p) s none = absurd (none (omega arith))

behind_none : (ss : List Selector) (p e : ℕ) (s : Selector) → 1 ≤ p → e ≡ p - 1 → slice_get ss e ≡ None → true ≡ begins_designator ss p s
behind_none ss zero e s l is none = absurd (omega (arith, l))
behind_none ss (suc p) e s l is none =
    let same : p ≡ e = omega (arith, is) in
    sym (ap (λ (o : Option Selector). elim o [ None ↦ true | Some before ↦ not (before.of == s.of) ]) (ap (slice_get ss) same ∙ none))

behind_another : (ss : List Selector) (p e : ℕ) (s before : Selector) → 1 ≤ p → e ≡ p - 1 → slice_get ss e ≡ Some before → not (before.of == s.of) ≡ begins_designator ss p s
behind_another ss zero e s before l is there = absurd (omega (arith, l))
behind_another ss (suc p) e s before l is there =
    let same : p ≡ e = omega (arith, is) in
    sym (ap (λ (o : Option Selector). elim o [ None ↦ true | Some earlier ↦ not (earlier.of == s.of) ]) (ap (slice_get ss) same ∙ there))

pub returns-in-None : goal.returns-in-None
returns-in-None c = first_of_all c.args.selectors.now c.args.position c.args.selector c.in-None.ensures

pub returns-in-None-get : goal.returns-in-None-get
returns-in-None-get c =
    behind_none c.args.selectors.now c.args.position c.in-Some.earlier c.args.selector c.in-Some.ensures.0 c.in-Some.ensures.1
    (slice_get_past c.args.selectors.now c.in-Some.earlier c.in-None-get.ensures.lookup.3)

pub returns-in-Some-get : goal.returns-in-Some-get
returns-in-Some-get c =
    behind_another c.args.selectors.now c.args.position c.in-Some.earlier c.args.selector c.in-Some-get.before.now c.in-Some.ensures.0 c.in-Some.ensures.1
    (slice_get_read c.args.selectors.now _ c.in-Some.earlier c.in-Some-get.before.now refl c.in-Some-get.ensures.lookup.3.0 c.in-Some-get.ensures.lookup.1)
