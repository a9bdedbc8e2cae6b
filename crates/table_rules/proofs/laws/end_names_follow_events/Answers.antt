use Rattle.table_rules.proofs.Derived.{counted_endings}
use Rattle.table_rules.proofs.laws.end_names_follow_events.Goals as goal

pub returns : goal.returns
returns c = counted_endings
