use Rattle.std.proofs.Common.{◌≡◌, take}
use Rattle.scopes.specs.Members.{declared_members}
use Rattle.ob_scope.proofs.members.declared_members.Given as goal

abbrev pub invariant-loop-row : goal.invariant-loop-row
invariant-loop-row l = l.members.items ≡ declared_members l.decl_groups (take l.row-index l.declared)
