use Rattle.std.proofs.Common.{◌≡◌, map, take}
use Rattle.module_table.specs.declared.rows.Used.{Used}
use Rattle.ob_targets.specs.Targets.{use_target}
use Rattle.ob_resolve.proofs.used.use_targets.Given as goal

abbrev pub invariant-loop-row : goal.invariant-loop-row
invariant-loop-row l = l.targets.items ≡ map (λ (u : Used). use_target l.view u.number) (take l.row-index l.uses)
