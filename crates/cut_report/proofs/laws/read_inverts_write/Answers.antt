use Rattle.std.proofs.Common.{Ok}
use Rattle.cut_report.proofs.Readings.{reading_once}
use Rattle.cut_report.proofs.laws.read_inverts_write.Goals as goal

pub returns-clause-only : goal.returns-clause-only
returns-clause-only c = λ net bytes entry o w is_text says. reading_once net bytes o (Ok entry) w says is_text
