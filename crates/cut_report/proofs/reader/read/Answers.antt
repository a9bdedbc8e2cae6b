use Rattle.cut_report.proofs.Readings.{only_reading}
use Rattle.cut_report.proofs.reader.read.Goals as goal

pub returns-clause-only : goal.returns-clause-only
returns-clause-only c = only_reading c.args.net.now c.args.bytes.now c.read_lines.result c.invariants.ensures.network c.read_lines.ensures
