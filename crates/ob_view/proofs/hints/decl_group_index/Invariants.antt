use Rattle.std.proofs.Common.{◌-◌, length}
use Rattle.ob_view.proofs.hints.decl_group_index.Given as goal

abbrev pub decreases-decl_groups : goal.decreases-decl_groups
decreases-decl_groups l = length l.decl_groups - l.at
