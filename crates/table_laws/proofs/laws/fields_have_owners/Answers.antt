use Rattle.table_laws.proofs.StandingModules.{has_owner}
use Rattle.table_laws.proofs.laws.fields_have_owners.Goals as goal

pub returns : goal.returns
returns c = has_owner
