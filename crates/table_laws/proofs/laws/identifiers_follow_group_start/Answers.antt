use Rattle.table_laws.proofs.StandingModules.{behind_first}
use Rattle.table_laws.proofs.laws.identifiers_follow_group_start.Goals as goal

pub returns : goal.returns
returns c = behind_first
