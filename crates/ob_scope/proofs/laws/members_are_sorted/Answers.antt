use Rattle.scopes.specs.declared.members.Member.{Member}
use Rattle.scopes.specs.Members.{members_of}
use Rattle.module_table.proofs.Around.{ascend_one}
use Rattle.ob_scope.proofs.Placing.{members_ascend}
use Rattle.ob_scope.proofs.laws.members_are_sorted.Goals as goal

pub returns-clause-sorted : goal.returns-clause-sorted
returns-clause-sorted c = λ rows up. members_ascend rows.decl_groups rows.declared up

pub returns-clause-one : goal.returns-clause-one
returns-clause-one c = λ rows d e up p q same. ascend_one (λ (m : Member). m.number) (members_of rows) d e (members_ascend rows.decl_groups rows.declared up) p q same
