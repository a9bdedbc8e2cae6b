-- The claims of answers and reports, by which contracts describe them.
use Rattle.std.specs.Prelude.{ℕ}
use Rattle.cut_net.specs.declared.answer.Answer.{Answer}
use Rattle.cut_net.specs.Answers.{answer_claim}
use Rattle.cut_report.specs.ReportClaim.{ReportClaim}
use Rattle.cut_report.specs.declared.report.Report.{Report}

-- the claim of a report with this answer for the modules `from` and `to`
abbrev pub claim_of : ℕ → ℕ → Answer → ReportClaim
claim_of from to answer = record { from = from; to = to; claim = answer_claim answer }

-- the claim of this report
abbrev pub entry_of : Report → ReportClaim
entry_of report = claim_of report.from report.to report.answer
