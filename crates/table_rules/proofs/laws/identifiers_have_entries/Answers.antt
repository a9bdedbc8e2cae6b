use Rattle.table_rules.proofs.Derived.{each_named}
use Rattle.table_rules.proofs.laws.identifiers_have_entries.Goals as goal

pub returns : goal.returns
returns c = each_named
