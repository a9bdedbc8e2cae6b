use Rattle.cut_rules.proofs.Promise.{leaves_one}
use Rattle.cut_rules.proofs.laws.each_violation_is_needed.Goals as goal

pub returns : goal.returns
returns c net files pieces line k breaks = leaves_one net files pieces line k breaks.0 breaks.1
