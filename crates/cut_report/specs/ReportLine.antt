-- The lines of a report, and their bytes.
use Rattle.std.specs.Prelude.{ℕ, List, [], ◌∷◌, ◌++◌, map, codes}
use Rattle.std.specs.List.{flat_map}
use Rattle.std.specs.Fmt.{decimal}
use Rattle.cut_net.specs.declared.priced.Priced.{Priced}
use Rattle.texts.specs.Fields.{ended, line_of}
use Rattle.cut_net.specs.Network.{Network, name_of}
use Rattle.cut_net.specs.AnswerClaim.{AnswerClaim, CutOf, BlockedBy}
use Rattle.cut_report.specs.ReportClaim.{ReportClaim}

-- the content of a line: the two modules, the weight, an import to remove with its weight, an import with its flow, the names of a path of
-- pinned imports, or the end
pub data ReportLine : Type 0 where
  Ends : List ℕ → List ℕ → ReportLine
  Weighs : ℕ → ReportLine
  Removes : List ℕ → List ℕ → ℕ → ReportLine
  Flows : List ℕ → List ℕ → ℕ → ReportLine
  Blocks : List (List ℕ) → ReportLine
  Last : ReportLine

-- the bytes of a line, without its LF
abbrev pub report_line : ReportLine → List ℕ
report_line (Ends m n) = line_of (codes "cut" ∷ m ∷ n ∷ [])
report_line (Weighs w) = line_of (codes "weight" ∷ decimal w ∷ [])
report_line (Removes m n w) = line_of (codes "remove" ∷ m ∷ n ∷ decimal w ∷ [])
report_line (Flows m n f) = line_of (codes "flow" ∷ m ∷ n ∷ decimal f ∷ [])
report_line (Blocks names) = line_of (codes "blocked" ∷ names)
report_line Last = codes "end"

-- the bytes of the lines, each with its LF
abbrev pub written : List ReportLine → List ℕ
written lines = flat_map (λ line. ended (report_line line)) lines

-- the line of an import to remove
abbrev pub removes : Network → Priced → ReportLine
removes net line = Removes (name_of net line.from) (name_of net line.to) line.amount

-- the line of an import with flow
abbrev pub flows : Network → Priced → ReportLine
flows net line = Flows (name_of net line.from) (name_of net line.to) line.amount

-- the lines of an answer, which are those between the first and the last line of a report
abbrev pub answer_lines : Network → AnswerClaim → List ReportLine
answer_lines net (CutOf total printed flow) = Weighs total ∷ (map (removes net) printed ++ map (flows net) flow)
answer_lines net (BlockedBy chain) = Blocks (map (name_of net) chain) ∷ []

-- all lines of a report but the last
abbrev pub leading_lines : Network → ReportClaim → List ReportLine
leading_lines net entry = Ends (name_of net entry.from) (name_of net entry.to) ∷ answer_lines net entry.claim

-- all lines of a report
abbrev pub entry_lines : Network → ReportClaim → List ReportLine
entry_lines net entry = leading_lines net entry ++ Last ∷ []
