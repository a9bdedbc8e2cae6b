use Rattle.table_rules.proofs.ReadingModules.{tables_same}
use Rattle.table_rules.proofs.laws.events_determine_table.Goals as goal

pub returns : goal.returns
returns c = tables_same
