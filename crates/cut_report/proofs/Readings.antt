-- The outcome of a report's text is unique.
use Rattle.std.proofs.Common.{◌≡◌, ◌≢◌, ℕ, ◌+◌, List, [], ◌∷◌, ◌++◌, length, Some, None, Result, Ok, Err, refl, sym, ap, ◌∙◌}
use Rattle.std.proofs.lemmas.List.{append-nil}
use Rattle.cut_net.specs.Network.{Network}
use Rattle.cut_net.specs.WellFormed.{IsNetwork}
use Rattle.cut_report.specs.ReportClaim.{ReportClaim}
use Rattle.cut_report.specs.ReportLine.{ReportLine, Last, written}
use Rattle.cut_report.specs.ReportLines.{last_of, IsPrefix, IsReportOutcome}
use Rattle.cut_report.specs.declared.fault.ReportFault.{ReportFault}
use Rattle.cut_report.specs.declared.fault.ReportFault.TheVariants as faults
use Rattle.cut_report.specs.declared.report.Report.{Report}
use Rattle.cut_report.specs.Faults.{HasOutcome}
use Rattle.cut_report.specs.Reading.{entry_of}
use Rattle.cut_report.specs.ReportLine.{leading_lines, entry_lines}
use Rattle.cut_report.proofs.RestKinds.{Kind, Good, Bad, Unknown, Below, Unended, Over, rest_kind, kind_bad, kind_unknown, kind_below, kind_unended, kind_over, fronts_once}
use Rattle.cut_report.proofs.EntryLines.{report_good, entry_in, entry_again, last_of-append}

-- what follows from valid lines and from what stands after them
abbrev outcome_at : Network → List ReportLine → Kind → Result ReportClaim ReportFault
outcome_at net lines Good = Err faults.NoEnd
outcome_at net lines Bad = Err (faults.BadLine (length lines + 1))
outcome_at net lines Unknown = Err (faults.UnknownName (length lines + 1))
outcome_at net lines Below = Err (faults.Order (length lines + 1))
outcome_at net lines Unended = Err faults.NoEnd
outcome_at net lines Over = Ok (entry_in net lines)

-- where the outcome is met
record IsStop (net : Network) (bytes : List ℕ) (o : Result ReportClaim ReportFault) : Type 0 where
  before : List ReportLine
  rest : List ℕ
  prefix : IsPrefix net bytes before rest
  stops : rest_kind net (last_of None before) rest ≢ Good
  is : o ≡ outcome_at net before (rest_kind net (last_of None before) rest)

last_line : (net : Network) (e : ReportClaim) → last_of None (entry_lines net e) ≡ Some Last
last_line net e = last_of-append None (leading_lines net e) (Last ∷ [])

stop : (net : Network) (bytes : List ℕ) (before : List ReportLine) (rest : List ℕ) (k : Kind) (o : Result ReportClaim ReportFault) → IsPrefix net bytes before rest → rest_kind net (last_of None before) rest ≡ k → k ≢ Good → o ≡ outcome_at net before k
    → IsStop net bytes o
stop net bytes before rest k o f e n is = record {
  before = before;
  rest = rest;
  prefix = f;
  stops = λ g. n (sym e ∙ g);
  is = is ∙ ap (outcome_at net before) (sym e);
}

stop_of : (net : Network) (bytes : List ℕ) (o : Result ReportClaim ReportFault) → IsNetwork net → IsReportOutcome net bytes o → IsStop net bytes o
stop_of net bytes (Ok e) w h =
    let whole : bytes ≡ written (entry_lines net e) ++ [] = h.spelled ∙ sym (append-nil (written (entry_lines net e))) in
    stop net bytes (entry_lines net e) [] Over (Ok e) (record { good = report_good net e w h.report; whole = whole }) (kind_over net (last_of None (entry_lines net e)) (last_line net e)) (λ bad. cc)
    (ap (λ (x : ReportClaim). Ok x) (sym (entry_again net e w h.report)))
stop_of net bytes (Err (faults.BadLine line)) w h =
    let b = h.2 in
    stop net bytes b.before b.rest Bad (Err (faults.BadLine line)) b.prefix (kind_bad net (last_of None b.before) b.rest b.wrong) (λ bad. cc) (ap (λ (n : ℕ). Err (faults.BadLine n)) (h.1 ∙ ap (λ (n : ℕ). n + 1) (sym b.count)))
stop_of net bytes (Err (faults.UnknownName line)) w h =
    let b = h.2 in
    stop net bytes b.before b.rest Unknown (Err (faults.UnknownName line)) b.prefix (kind_unknown net (last_of None b.before) b.rest b.line b.next b.present b.unknown) (λ bad. cc) (ap (λ (n : ℕ). Err (faults.UnknownName n)) (h.1 ∙ ap (λ (n : ℕ). n + 1) (sym b.count)))
stop_of net bytes (Err (faults.Order line)) w h =
    let b = h.2 in
    stop net bytes b.before b.rest Below (Err (faults.Order line)) b.prefix (kind_below net (last_of None b.before) b.rest b.line w.names_ascend b.next b.present b.known b.below) (λ bad. cc) (ap (λ (n : ℕ). Err (faults.Order n)) (h.1 ∙ ap (λ (n : ℕ). n + 1) (sym b.count)))
stop_of net bytes (Err faults.NoEnd) w h = stop net bytes h.before h.rest Unended (Err faults.NoEnd) h.prefix (kind_unended net (last_of None h.before) h.rest h.not_last h.unended) (λ bad. cc) refl
stop_of net bytes (Err faults.Device) w h = absurd h
stop_of net bytes (Err faults.Memory) w h = absurd h

pub reading_once : (net : Network) (bytes : List ℕ) (o p : Result ReportClaim ReportFault) → IsNetwork net → IsReportOutcome net bytes o → IsReportOutcome net bytes p → o ≡ p
reading_once net bytes o p w h k =
    let s = stop_of net bytes o w h in
    let t = stop_of net bytes p w k in
    let same = fronts_once net None s.before t.before s.rest t.rest w.names_ascend s.prefix.good t.prefix.good (sym s.prefix.whole ∙ t.prefix.whole) s.stops t.stops in
    let one : outcome_at net s.before (rest_kind net (last_of None s.before) s.rest) ≡ outcome_at net t.before (rest_kind net (last_of None t.before) t.rest) = rw (same.0, same.1) refl in
    s.is ∙ one ∙ sym t.is

-- an answer is the one that the text has
pub only_reading : (net : Network) (bytes : List ℕ) (r : Result Report ReportFault) → IsNetwork net → HasOutcome entry_of r (IsReportOutcome net bytes)
    → (o : Result ReportClaim ReportFault) → IsReportOutcome net bytes o → HasOutcome entry_of r (λ p. p ≡ o)
only_reading net bytes (Ok report) w h o k = reading_once net bytes (Ok (entry_of report)) o w h k
only_reading net bytes (Err faults.Memory) w h o k = tt
only_reading net bytes (Err fault) w h o k = reading_once net bytes (Err fault) o w h k
