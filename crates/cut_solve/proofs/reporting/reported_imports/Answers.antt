use Rattle.std.proofs.Common.{length, arith}
use Rattle.cut_solve.proofs.Listing.{ends_in}
use Rattle.std.proofs.lemmas.Grind.{common_steps}
use Rattle.cut_solve.proofs.reporting.reported_imports.Goals as goal

pub is_reported_import-requires-clause-from : goal.is_reported_import-requires-clause-from
is_reported_import-requires-clause-from c = (ends_in c.args.imports.now (length c.args.source_side.now) c.loop-i.i-index c.requires.source_side c.loop-i-test.true).0

pub is_reported_import-requires-clause-to : goal.is_reported_import-requires-clause-to
is_reported_import-requires-clause-to c = (ends_in c.args.imports.now (length c.args.source_side.now) c.loop-i.i-index c.requires.source_side c.loop-i-test.true).1

pub is_reported_import-requires-clause-sink_side : goal.is_reported_import-requires-clause-sink_side
is_reported_import-requires-clause-sink_side c = (ends_in c.args.imports.now (length c.args.sink_side.now) c.loop-i.i-index c.requires.sink_side c.loop-i-test.true).1

pub loop-i-preserved : goal.loop-i-preserved
loop-i-preserved c = grind (arith, common_steps)

pub returns : goal.returns
returns c = grind (arith, common_steps)
