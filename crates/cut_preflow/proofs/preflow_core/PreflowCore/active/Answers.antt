use Rattle.std.proofs.Common.{◌≡◌, ◌↔◌, ◌∙◌, ℕ, Bool, true, false, Option, Some, None, IfSome, IsNone, List, slice_index_or, sym, refl}
use Rattle.cut_preflow.specs.Preflow.{FlowNetwork, State, is_active}
use Rattle.cut_preflow.specs.Kept.{IsQuiet}
use Rattle.cut_preflow.proofs.Fields.{fields_of, net_of, reached_flags}
use Rattle.cut_preflow.proofs.preflow_core.PreflowCore.active.Goals as goal

none_if_quiet : (net : FlowNetwork) (s : State) (found : Option ℕ) → IfSome found (λ v. is_active net s v ≡ true) → IsQuiet net s → IsNone found
none_if_quiet net s None some quiet = refl
none_if_quiet net s (Some v) some quiet = absurd (let off = quiet v in cc)

if_some_active : (net : FlowNetwork) (s : State) (found : Option ℕ) (active : List Bool) → ((v : ℕ) → slice_index_or active v false ≡ is_active net s v) → IfSome found (λ v. slice_index_or active v false ≡ true) → IfSome found (λ v. is_active net s v ≡ true)
if_some_active net s None active are some = some
if_some_active net s (Some v) active are some = sym (are v) ∙ some

pub returns-clause-some : goal.returns-clause-some
returns-clause-some c =
    reached_flags c.self.inside c.self.invariant.0 c.args.self.now c.self.view_is (λ net s. IfSome c.any_member.result (λ v. is_active net s v ≡ true))
    (if_some_active (net_of c.self.inside) (fields_of c.self.inside) c.any_member.result c.self.inside.active c.self.invariant.1.active_are c.any_member.ensures.some)

pub returns-clause-none : goal.returns-clause-none
returns-clause-none c =
    reached_flags c.self.inside c.self.invariant.0 c.args.self.now c.self.view_is (λ net s. IsNone c.any_member.result ↔ IsQuiet net s) (
      λ none v. sym (c.self.invariant.1.active_are v) ∙ c.any_member.ensures.none none v,
      none_if_quiet (net_of c.self.inside) (fields_of c.self.inside) c.any_member.result
          (if_some_active (net_of c.self.inside) (fields_of c.self.inside) c.any_member.result c.self.inside.active c.self.invariant.1.active_are c.any_member.ensures.some),
    )
