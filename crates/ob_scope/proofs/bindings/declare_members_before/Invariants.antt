use Rattle.std.proofs.Common.{◌≡◌, ℕ, ◌<◌, ◌-◌, List, Some, length}
use Rattle.std.specs.Prelude.{slice_get}
use Rattle.module_table.specs.declared.rows.Used.{Used}
use Rattle.scopes.specs.declared.members.Member.{Member}
use Rattle.ob_scope.specs.BindingStates.{AreBindings}
use Rattle.ob_scope.specs.WalkOrder.{IsOnWalk}
use Rattle.ob_scope.proofs.bindings.declare_members_before.Given as goal

abbrev pub invariant-loop-bindings : goal.invariant-loop-bindings
invariant-loop-bindings l = record {
  bindings : AreBindings l.blocks l.members l.numbers (length l.initial.bindings.latest.items) l.bindings;
  before : (k : ℕ) (m : Member) → k < l.bindings.next → slice_get l.members k ≡ Some m → m.number < l.token;
  some : (uses : List Used) × IsOnWalk l.blocks l.members uses l.bindings l.token;
  walk : (uses : List Used) → IsOnWalk l.blocks l.members uses l.initial.bindings l.token → IsOnWalk l.blocks l.members uses l.bindings l.token;
}

abbrev pub decreases-loop-bindings : goal.decreases-loop-bindings
decreases-loop-bindings l = length l.members - l.bindings.next
