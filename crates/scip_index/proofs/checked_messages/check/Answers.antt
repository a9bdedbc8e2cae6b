use Rattle.scip_index.proofs.CheckedLaws.{checked_fault, checked_means}
use Rattle.scip_index.proofs.checked_messages.check.Goals as goal

pub returns-clause-means : goal.returns-clause-means
returns-clause-means c = checked_means c.args.bytes.now c.check_index.result c.check_index.ensures.clean

pub returns-clause-fault : goal.returns-clause-fault
returns-clause-fault c = checked_fault c.args.bytes.now c.check_index.result c.check_index.ensures.err
