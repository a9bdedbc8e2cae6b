-- The contracts of lower crates imply the definition of a run that draws a report.
use Rattle.std.proofs.Common.{ℕ, arith, List, Option, Result, Ok, Err, refl, inl, inr, sym, subst}
use Rattle.byte_sink.specs.declared.sink.SinkFault.{SinkFault}
use Rattle.byte_sink.specs.declared.sink.SinkFault.TheVariants as sink
use Rattle.cut_net.specs.Network.{Network}
use Rattle.cut_net.specs.AnswerClaim.{AnswerClaim}
use Rattle.cut_report.specs.declared.report.Report.{Report as ReportRead}
use Rattle.cut_report.specs.declared.fault.ReportFault.{ReportFault}
use Rattle.cut_report.specs.declared.fault.ReportFault.TheVariants as report
use Rattle.cut_report.specs.Faults.{UnlessMemory}
use Rattle.cut_report.specs.ReportLines.{IsReportOutcome}
use Rattle.cut_report.specs.Reading.{entry_of}
use Rattle.cut_net.specs.declared.answer.Answer.{Answer}
use Rattle.cut_net.specs.declared.answer.Answer.TheVariants as answers
use Rattle.cut_net.specs.Answers.{answer_claim}
use Rattle.cut_report.specs.ReportText.{IsWellFormedAnswer}
use Rattle.cut_net.specs.Lines.{IsAscending}
use Rattle.cut_dot.specs.Drawing.{IsDrawing, IsDrawingOf}
use Rattle.cut_dot.specs.Pictures.{answer_flow, answer_removed}
use Rattle.oscip_run.specs.Faults.{of_report, of_sink}
use Rattle.oscip_run.specs.DotRuns.{IsDotRun, IsDrawn, IsPictureOf, WritesPicturePrefix}
use Rattle.oscip_run.specs.PricedInputs.{IsRejectedOr}
use Rattle.oscip_run.specs.Runs.{IsNeverRejected, IsThis}
use Rattle.oscip_run.specs.declared.fault.RunFault.{RunFault}
use Rattle.oscip_run.specs.declared.fault.RunFault.TheVariants as run
use Rattle.oscip_run.proofs.CheckRuns.{Keeps-same, no_run}

-- both lists of an answer that may be said ascend
pub removed_ascend : (n : Network) (answer : Answer) → IsWellFormedAnswer n (answer_claim answer) → IsAscending (answer_removed answer)
removed_ascend n (answers.Cut cut) says = says.printed_in_order
removed_ascend n (answers.Blocked chain) says = λ j k d lt within. absurd (omega arith)

pub flow_ascends : (n : Network) (answer : Answer) → IsWellFormedAnswer n (answer_claim answer) → IsAscending (answer_flow answer)
flow_ascends n (answers.Cut cut) says = says.flow_in_order
flow_ascends n (answers.Blocked chain) says = λ j k d lt within. absurd (omega arith)

-- the picture of an answer is that of what it says
pub drawing_of : (n : Network) (a b : ℕ) (answer : Answer) (old new : Option (List ℕ)) (result : Result (Unit {0}) SinkFault) → IsDrawing n a b (answer_removed answer) (answer_flow answer) old new result
    → IsDrawingOf (IsPictureOf n a b (answer_claim answer)) old new result
drawing_of n a b (answers.Cut cut) old new result h = h
drawing_of n a b (answers.Blocked chain) old new result h = h

-- of whatever picture is drawn
module _ (Shows : Network → ℕ → ℕ → AnswerClaim → List ℕ → Type 0) where
  -- a refused report
  pub refused : (n : Network) (text : List ℕ) (known : Option (List ℕ)) (fault : ReportFault) → UnlessMemory fault (IsReportOutcome n text (Err fault))
      → IsDotRun Shows (IsThis n) IsNeverRejected text known known (Err (of_report fault))
  refused n text known (report.BadLine line) h = ((n, refl, h), Keeps-same known)
  refused n text known (report.UnknownName line) h = ((n, refl, h), Keeps-same known)
  refused n text known (report.Order line) h = ((n, refl, h), Keeps-same known)
  refused n text known report.NoEnd h = ((n, refl, h), Keeps-same known)
  refused n text known report.Device h = absurd h
  refused n text known report.Memory h = inl (Keeps-same known)

  -- what came of a drawing
  pub drawn : (n : Network) (bytes : List ℕ) (r : ReportRead) (old new : Option (List ℕ)) (fault : SinkFault) → IsReportOutcome n bytes (Ok (entry_of r))
      → IsDrawingOf (Shows n r.from r.to (answer_claim r.answer)) old new (Err fault) → IsDotRun Shows (IsThis n) IsNeverRejected bytes old new (Err (of_sink fault))
  drawn n bytes r old new sink.Device says h = (h.0, record { net = n; reads = refl; entry = entry_of r; says = says; picture = h.1 }, h.2)
  drawn n bytes r old new sink.Memory says (inl h) = inl h
  drawn n bytes r old new sink.Memory says (inr h) = inr (h.0, record { net = n; reads = refl; entry = entry_of r; says = says; picture = h.1 }, h.2)

  -- a picture on a network is one on the input that has it
  drawn_of : (IsOf : Network → Type 0) (n : Network) → IsOf n → (bytes text : List ℕ) → IsDrawn Shows (IsThis n) bytes text → IsDrawn Shows IsOf bytes text
  drawn_of IsOf n is bytes text d = record { net = d.net; reads = subst IsOf (sym d.reads) is; entry = d.entry; says = d.says; picture = d.picture }

  front_of : (IsOf : Network → Type 0) (n : Network) → IsOf n → (bytes : List ℕ) (old new : Option (List ℕ)) → WritesPicturePrefix Shows (IsThis n) bytes old new → WritesPicturePrefix Shows IsOf bytes old new
  front_of IsOf n is bytes old new h = (h.0, drawn_of IsOf n is bytes h.0 h.1, h.2)

  -- no network, in a run that draws
  pub no_net : (IsOf : Network → Type 0) (IsRefused : RunFault → Type 0) (bytes : List ℕ) (known : Option (List ℕ)) (fault : RunFault) → IsRejectedOr IsRefused fault →
      IsDotRun Shows IsOf IsRefused bytes known known (Err fault)
  no_net IsOf IsRefused bytes known = no_run (λ fault. IsDotRun Shows IsOf IsRefused bytes known known (Err fault)) IsRefused known (λ fault h. h) (λ fault h. h) (λ fault h. h) (λ h. inl h)

  -- and so is a run
  pub run_of : (IsOf : Network → Type 0) (IsRefused : RunFault → Type 0) (n : Network) → IsOf n → (bytes : List ℕ) (old new : Option (List ℕ)) (result : Result (Unit {0}) RunFault)
      → IsDotRun Shows (IsThis n) IsNeverRejected bytes old new result → IsDotRun Shows IsOf IsRefused bytes old new result
  run_of IsOf IsRefused n is bytes old new (Ok done) h = (h.0, drawn_of IsOf n is bytes h.0 h.1, h.2)
  run_of IsOf IsRefused n is bytes old new (Err (run.CannotRead path)) h = absurd h
  run_of IsOf IsRefused n is bytes old new (Err (run.CannotWrite path)) h = absurd h
  run_of IsOf IsRefused n is bytes old new (Err (run.Tree fault)) h = absurd h.0
  run_of IsOf IsRefused n is bytes old new (Err (run.Net fault)) h = absurd h.0
  run_of IsOf IsRefused n is bytes old new (Err (run.Price fault)) h = absurd h.0
  run_of IsOf IsRefused n is bytes old new (Err (run.Report fault)) h =
      let refused = h.0 in
      ((refused.0, subst IsOf (sym refused.1) is, refused.2), h.1)
  run_of IsOf IsRefused n is bytes old new (Err (run.Solve fault)) h = absurd h
  run_of IsOf IsRefused n is bytes old new (Err (run.Rules fault)) h = absurd h
  run_of IsOf IsRefused n is bytes old new (Err (run.Query fault)) h = absurd h
  run_of IsOf IsRefused n is bytes old new (Err run.Device) h = front_of IsOf n is bytes old new h
  run_of IsOf IsRefused n is bytes old new (Err run.Memory) (inl h) = inl h
  run_of IsOf IsRefused n is bytes old new (Err run.Memory) (inr h) = inr (front_of IsOf n is bytes old new h)
