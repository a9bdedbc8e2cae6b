use Rattle.oscip_run.proofs.DotRuns.{drawing_of}
use Rattle.oscip_run.proofs.drawing.write_picture.Goals as goal

pub returns-else-by_flow-clause-run : goal.returns-else-by_flow-clause-run
returns-else-by_flow-clause-run g c = rw c.if-by_flow.false (drawing_of c.args.net.now c.args.report.now.from c.args.report.now.to c.args.report.now.answer _ _ _ c.draw.ensures.run)
