use Rattle.table_laws.proofs.StandingModules.{ends_form, of_record}
use Rattle.table_laws.proofs.laws.record_ends_owner_type.Goals as goal

pub returns : goal.returns
returns c = record { here = ends_form; unique = of_record }
