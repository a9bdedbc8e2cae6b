use Rattle.table_rules.proofs.Derived.{counted_declared, counted_used}
use Rattle.table_rules.proofs.laws.table_follows_events.Goals as goal

pub returns : goal.returns
returns c = record { declared = counted_declared; used = counted_used }
