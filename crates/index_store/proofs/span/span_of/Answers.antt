use Rattle.std.proofs.Common.{rules}
use Rattle.index_store.proofs.span.span_of.Goals as goal

pub returns-in-len3 : goal.returns-in-len3
returns-in-len3 c = search rules

pub returns-in-len4 : goal.returns-in-len4
returns-in-len4 c = search rules

pub returns-in_default : goal.returns-in_default
returns-in_default c = search rules
