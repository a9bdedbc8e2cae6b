-- The stored targets of uses.
use Rattle.std.specs.Prelude.{◌≡◌, List, map}
use Rattle.module_table.specs.declared.rows.Used.{Used}
use Rattle.ob_view.specs.World.{World}
use Rattle.ob_view.specs.declared.target.Target.{Target}
use Rattle.ob_targets.specs.Targets.{use_target}

-- the list has the target of each use of the module `w`, in the order of the uses
abbrev pub AreUseTargets : World → List Target → Type 0
AreUseTargets w targets = targets ≡ map (λ (u : Used). use_target w u.number) w.rows.uses
