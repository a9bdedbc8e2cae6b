use Rattle.source_tree.proofs.OneParting.{one_accepted, one_told}
use Rattle.source_tree.proofs.laws.partition_is_unique.Goals as goal

pub returns-clause-accepted : goal.returns-clause-accepted
returns-clause-accepted c = one_accepted

pub returns-clause-message : goal.returns-clause-message
returns-clause-message c = one_told
