use Rattle.table_laws.proofs.OwnedModules.{owns_one}
use Rattle.table_laws.proofs.laws.owner_has_one_record.Goals as goal

pub returns : goal.returns
returns c = owns_one
