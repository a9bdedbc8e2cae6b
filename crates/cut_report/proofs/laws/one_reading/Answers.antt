use Rattle.cut_report.proofs.Readings.{reading_once}
use Rattle.cut_report.proofs.laws.one_reading.Goals as goal

pub returns : goal.returns
returns c = reading_once
