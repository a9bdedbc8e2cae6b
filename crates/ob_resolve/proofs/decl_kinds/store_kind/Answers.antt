use Rattle.std.proofs.Common.{arith}
use Rattle.ob_resolve.proofs.Sorting.{one_kept}
use Rattle.ob_resolve.proofs.decl_kinds.store_kind.Goals as goal

pub returns-then-declared-decl_kinds : goal.returns-then-declared-decl_kinds
returns-then-declared-decl_kinds c = one_kept c.args.view.now c.args.decl_kinds.now c.args.declared c.decl_kind.result (omega arith) c.decl_kind.ensures c.requires
