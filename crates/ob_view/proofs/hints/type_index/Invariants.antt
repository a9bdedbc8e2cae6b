use Rattle.std.proofs.Common.{◌-◌, length}
use Rattle.ob_view.proofs.hints.type_index.Given as goal

abbrev pub decreases-parts : goal.decreases-parts
decreases-parts l = length l.parts - l.at
