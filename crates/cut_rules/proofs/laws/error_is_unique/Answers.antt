use Rattle.cut_rules.proofs.FaultLaws as faults
use Rattle.cut_rules.proofs.laws.error_is_unique.Goals as goal

pub returns : goal.returns
returns c = faults.error_is_unique
