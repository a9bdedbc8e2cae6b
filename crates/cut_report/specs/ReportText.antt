-- The text of a report, and which reports are well-formed.
use Rattle.std.specs.Prelude.{◌≡◌, ℕ, ◌<◌, ◌^◌, List, length, All}
use Rattle.cut_net.specs.declared.priced.Priced.{Priced}
use Rattle.cut_net.specs.Network.{Network}
use Rattle.cut_net.specs.Lines.{IsAscending}
use Rattle.cut_net.specs.WellFormed.{AreBetween}
use Rattle.cut_net.specs.AnswerClaim.{AnswerClaim, CutOf, BlockedBy}
use Rattle.cut_report.specs.ReportClaim.{ReportClaim}
use Rattle.cut_report.specs.ReportLine.{entry_lines, written}

-- the text of a report
abbrev pub report_text : Network → ReportClaim → List ℕ
report_text net entry = written (entry_lines net entry)

-- a well-formed cut: imports between modules of the network, strictly sorted, and no flow of 0
pub record IsWellFormedCut (net : Network) (total : ℕ) (printed flow : List Priced) : Type 0 where
  pub fits : total < 2 ^ 64
  pub printed_between : AreBetween printed (length net.names)
  pub printed_in_order : IsAscending printed
  pub printed_fit : All (λ line. line.amount < 2 ^ 64) printed
  pub flow_between : AreBetween flow (length net.names)
  pub flow_in_order : IsAscending flow
  pub flow_fits : All (λ line. line.amount < 2 ^ 64) flow
  pub flow_above_zero : All (λ line. 0 < line.amount) flow

-- a well-formed answer: a well-formed cut, or a path of one or more modules of the network
abbrev pub IsWellFormedAnswer : Network → AnswerClaim → Type 0
IsWellFormedAnswer net (CutOf total printed flow) = IsWellFormedCut net total printed flow
IsWellFormedAnswer net (BlockedBy chain) = (0 < length chain) × All (λ m. m < length net.names) chain

-- the report has two modules of the network and a well-formed answer
pub record IsReport (net : Network) (entry : ReportClaim) : Type 0 where
  pub from : entry.from < length net.names
  pub to : entry.to < length net.names
  pub says : IsWellFormedAnswer net entry.claim

-- the bytes are the text of this report
pub record ReportText (net : Network) (bytes : List ℕ) (entry : ReportClaim) : Type 0 where
  pub report : IsReport net entry
  pub spelled : bytes ≡ report_text net entry
