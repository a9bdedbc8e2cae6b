use Rattle.std.proofs.Common.{sym}
use Rattle.cut_report.specs.Lines.{line_content}
use Rattle.cut_report.proofs.LineLaws.{line_there}
use Rattle.cut_report.proofs.line.cut_first_line.Goals as goal

pub returns-in-Some-clause-line : goal.returns-in-Some-clause-line
returns-in-Some-clause-line c = line_there c.args.text.now c.in-Some.rest.now (line_content c.in-Some.line) c.in-Some.ensures.form c.in-Some.ensures.text

pub returns-clause-line : goal.returns-clause-line
returns-clause-line c = (_, sym c.in_ok-text.ensures, sym c.parse_line.ensures)
