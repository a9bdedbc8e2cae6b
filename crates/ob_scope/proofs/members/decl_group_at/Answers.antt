-- The declaration group with the found index.
use Rattle.std.proofs.Common.{sym, ◌∙◌}
use Rattle.ob_scope.proofs.Placing.{declarer_none, declarer_read}
use Rattle.ob_scope.proofs.members.decl_group_at.Goals as goal

pub returns-in_err-at : goal.returns-in_err-at
returns-in_err-at c = c.from_residual.ensures ∙ sym (declarer_none c.args.decl_groups.now c.args.first c.in_err-at.ensures.none)

pub returns : goal.returns
returns c = declarer_read c.args.decl_groups.now c.in_ok-at.at c.args.first _ c.requires c.in_ok-at.ensures.found
