use Rattle.std.proofs.Common.{sym}
use Rattle.ob_types.proofs.Lending.{number_told}
use Rattle.ob_types.proofs.precomputed.PrecomputedTypes.tree_index.Goals as goal

pub returns-then-branch-reached : goal.returns-then-branch-reached
returns-then-branch-reached c = λ v same. (number_told c.args.here.now.view v c.args.self.now same c.requires c.args.reached c.in_ok-module_number_by_name.field-0 c.in_ok-interface.field-0.now c.name-name.result.now c.module_number_in.result
    (sym c.in_ok-interface.ensures) c.name-name.ensures (sym c.in_ok-module_number_by_name.ensures) c.if-branch-reached.true (rw (c.as_slice.ensures.value, c.self.view_is) at c.module_number_in.ensures))
