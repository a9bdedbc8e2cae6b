use Rattle.ob_resolve.proofs.Sorting.{none_kept}
use Rattle.ob_resolve.proofs.decl_kinds.store_kinds.Goals as goal

pub loop-row-init : goal.loop-row-init
loop-row-init c = none_kept c.args.view.now c.args.decl_kinds.now c.requires
