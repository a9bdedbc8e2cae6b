use Rattle.std.proofs.Common.{◌≡◌, ℕ, ◌<◌, ◌≤◌, Some, length}
use Rattle.std.specs.Prelude.{slice_get}
use Rattle.module_table.specs.declared.rows.Used.{Used}
use Rattle.scopes.specs.declared.members.Member.{Member}
use Rattle.ob_scope.specs.BindingStates.{AreBindings}
use Rattle.ob_scan.specs.Texts.{text_at}
use Rattle.ob_scope.specs.Found.{AreCounted, AreMeant}
use Rattle.ob_scope.specs.WalkOrder.{IsOnWalk}
use Rattle.ob_scope.proofs.uses.resolve_each.Given as goal

abbrev pub invariant-loop-k : goal.invariant-loop-k
invariant-loop-k l = record {
  meant : AreMeant (text_at l.text.bytes.now l.text.tokens.now) l.blocks l.members l.uses l.k l.meanings.items;
  bindings : AreBindings l.blocks l.members l.named.numbers.items (length l.named.names.keys) l.bindings;
  before : (i p : ℕ) (u : Used) (m : Member) → l.k ≤ i → slice_get l.uses i ≡ Some u → p < l.bindings.next → slice_get l.members p ≡ Some m → m.number < u.number;
  walk : (i : ℕ) (u : Used) → l.k ≤ i → slice_get l.uses i ≡ Some u → IsOnWalk l.blocks l.members l.uses l.bindings u.number;
  counted : AreCounted (text_at l.text.bytes.now l.text.tokens.now) l.blocks l.members l.uses l.k l.counts;
}
