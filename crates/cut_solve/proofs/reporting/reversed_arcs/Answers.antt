use Rattle.std.proofs.Common.{length, arith}
use Rattle.cut_solve.proofs.Listing.{ends_in}
use Rattle.std.proofs.lemmas.Grind.{common_steps}
use Rattle.cut_solve.proofs.reporting.reversed_arcs.Goals as goal

pub leaves-requires-clause-from : goal.leaves-requires-clause-from
leaves-requires-clause-from c = (ends_in c.args.imports.now (length c.args.source_side.now) c.loop-i.i-index c.requires.between c.loop-i-test.true).0

pub leaves-requires-clause-to : goal.leaves-requires-clause-to
leaves-requires-clause-to c = (ends_in c.args.imports.now (length c.args.source_side.now) c.loop-i.i-index c.requires.between c.loop-i-test.true).1

pub loop-i-preserved : goal.loop-i-preserved
loop-i-preserved c = grind (arith, common_steps)

pub returns : goal.returns
returns c = grind (arith, common_steps)
