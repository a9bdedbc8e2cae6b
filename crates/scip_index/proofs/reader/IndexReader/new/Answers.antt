use Rattle.std.proofs.Common.{[]}
use Rattle.scip_index.proofs.StreamingLaws.{fresh, none_given}
use Rattle.scip_index.proofs.reader.IndexReader.new.Goals as goal

pub invariant_of-result : goal.invariant_of-result
invariant_of-result c = ([], rw c.new.ensures.items (fresh c.args.bytes.now))

pub returns-clause-given : goal.returns-clause-given
returns-clause-given c = none_given c.args.bytes.now
