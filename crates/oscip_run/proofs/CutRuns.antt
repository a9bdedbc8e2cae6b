-- The contracts of lower crates imply the definition of a run that searches for a cut.
use Rattle.std.proofs.Common.{◌≡◌, ℕ, List, Option, Some, Result, Ok, Err, true, refl, sym, subst, ◌∙◌, inl, inr}
use Rattle.std.proofs.lemmas.Option.{same_Some}
use Rattle.cut_net.specs.Network.{Network, index_of}
use Rattle.cut_net.specs.Pins.{IsAnswerWithPins, IsCheapestAnswerWithPins}
use Rattle.cut_net.specs.WellFormed.{IsNetwork}
use Rattle.cut_report.specs.ReportText.{report_text}
use Rattle.cut_net.specs.AnswerClaim.{AnswerClaim, CutOf, BlockedBy}
use Rattle.cut_report.specs.Faults.{is_of_sink}
use Rattle.byte_sink.specs.Sinks.{WritesBy}
use Rattle.cut_report.specs.declared.fault.ReportFault.{ReportFault}
use Rattle.cut_report.specs.declared.fault.ReportFault.TheVariants as report
use Rattle.cut_solve.specs.Faults.{UnlessMemory}
use Rattle.cut_solve.specs.Solving.{IsSolved, IsSolveOutcome}
use Rattle.cut_solve.specs.Solving as solving
use Rattle.cut_solve.specs.declared.fault.SolveFault.{SolveFault}
use Rattle.cut_solve.specs.declared.fault.SolveFault.TheVariants as solve
use Rattle.oscip_run.specs.Faults.{of_report, of_solve}
use Rattle.oscip_run.specs.CutRuns.{IsCutRun, IsCutText, IsPrinted, WritesCutPrefix}
use Rattle.oscip_run.specs.PricedInputs.{IsRejectedOr}
use Rattle.oscip_run.specs.Runs.{IsNeverRejected, IsThis}
use Rattle.oscip_run.specs.declared.fault.RunFault.{RunFault}
use Rattle.oscip_run.specs.declared.fault.RunFault.TheVariants as run
use Rattle.oscip_run.proofs.CheckRuns.{Keeps-same, no_run}
use Rattle.oscip_run.proofs.Sayable.{is_report, FlowFits}

-- refused names
pub refused_names : (IsOf : Network → Type 0) (IsRefused : RunFault → Type 0) (first second : List ℕ) (known : Option (List ℕ)) (n : Network) → IsOf n → (fault : SolveFault) →
    UnlessMemory fault (λ refusal. IsSolveOutcome n first second (Err refusal)) → IsCutRun IsOf IsRefused first second known known (Err (of_solve fault))
refused_names IsOf IsRefused first second known n is solve.SameModule h = ((n, is, solving.SameModule, refl, h), Keeps-same known)
refused_names IsOf IsRefused first second known n is (solve.NoSuchModule name) h = ((n, is, solving.NoSuchModule _, refl, h), Keeps-same known)
refused_names IsOf IsRefused first second known n is solve.Memory h = inl (Keeps-same known)

-- what is answered is what is printed
printed_of : (n : Network) (a b : ℕ) (claim : AnswerClaim) → IsAnswerWithPins n a b claim → IsCheapestAnswerWithPins n a b claim → IsPrinted n a b claim
printed_of n a b (CutOf total printed flow) answer cheapest = record {
  free = answer.free;
  printed_in_order = answer.right.printed_in_order;
  flow_in_order = answer.right.flow_in_order;
  cheapest = cheapest;
  weights = answer.right.weights;
  is_flow = answer.right.is_flow;
  are_printed = answer.are_printed;
}
printed_of n a b (BlockedBy chain) answer cheapest = record { least = answer; no_cut = cheapest }

-- the text of an answer to two names
pub cut_text : (IsOf : Network → Type 0) (first second : List ℕ) (n : Network) (from to : ℕ) (claim : AnswerClaim) → IsOf n →
    IsNetwork n → Some from ≡ index_of n first → Some to ≡ index_of n second → IsSolved n first second claim → FlowFits claim →
    IsCutText IsOf first second (report_text n (record { from = from; to = to; claim = claim }))
cut_text IsOf first second n from to claim is invariants from_is to_is s flow_fits =
    let report = is_report n first second (record { from = from; to = to; claim = claim }) invariants from_is to_is s flow_fits in
    let a_is : s.a ≡ from = same_Some _ _ (sym s.from_is ∙ sym from_is) in
    let b_is : s.b ≡ to = same_Some _ _ (sym s.to_is ∙ sym to_is) in
    record {
      net = n;
      reads = is;
      a = s.a;
      first_is = s.from_is;
      b = s.b;
      second_is = s.to_is;
      apart = s.apart;
      claim = claim;
      says = record { report = rw (a_is, b_is) report; spelled = rw (a_is, b_is) refl };
      holds = printed_of n s.a s.b claim s.answer s.cheapest;
    }

-- a sink that failed
pub error_prefix : (IsOf : Network → Type 0) (IsRefused : RunFault → Type 0) (first second : List ℕ) (old new : Option (List ℕ)) (text : List ℕ) (fault : ReportFault) → IsCutText IsOf first second text →
    (is_of_sink fault ≡ true) → WritesBy {T = Unit {0}} is_of_sink old new (Err fault) text → IsCutRun IsOf IsRefused first second old new (Err (of_report fault))
error_prefix IsOf IsRefused first second old new text (report.BadLine line) is of_sink writes = absurd cc
error_prefix IsOf IsRefused first second old new text (report.UnknownName line) is of_sink writes = absurd cc
error_prefix IsOf IsRefused first second old new text (report.Order line) is of_sink writes = absurd cc
error_prefix IsOf IsRefused first second old new text report.NoEnd is of_sink writes = absurd cc
error_prefix IsOf IsRefused first second old new text report.Device is of_sink writes = (text, is, writes)
error_prefix IsOf IsRefused first second old new text report.Memory is of_sink writes = inr (text, is, writes)

-- the report on a network is that on the input that has it
text_of : (IsOf : Network → Type 0) (n : Network) → IsOf n → (first second text : List ℕ) → IsCutText (IsThis n) first second text → IsCutText IsOf first second text
text_of IsOf n is first second text c = record {
  net = c.net;
  reads = subst IsOf (sym c.reads) is;
  a = c.a;
  first_is = c.first_is;
  b = c.b;
  second_is = c.second_is;
  apart = c.apart;
  claim = c.claim;
  says = c.says;
  holds = c.holds;
}

front_of : (IsOf : Network → Type 0) (n : Network) → IsOf n → (first second : List ℕ) (old new : Option (List ℕ)) → WritesCutPrefix (IsThis n) first second old new → WritesCutPrefix IsOf first second old new
front_of IsOf n is first second old new h = (h.0, text_of IsOf n is first second h.0 h.1, h.2)

-- no network, in a run of the search for a cut
pub no_net : (IsOf : Network → Type 0) (IsRefused : RunFault → Type 0) (first second : List ℕ) (known : Option (List ℕ)) (fault : RunFault) → IsRejectedOr IsRefused fault →
    IsCutRun IsOf IsRefused first second known known (Err fault)
no_net IsOf IsRefused first second known = no_run (λ fault. IsCutRun IsOf IsRefused first second known known (Err fault)) IsRefused known (λ fault h. h) (λ fault h. h) (λ fault h. h) (λ h. inl h)

-- and so is a run
pub run_of : (IsOf : Network → Type 0) (IsRefused : RunFault → Type 0) (n : Network) → IsOf n → (first second : List ℕ) (old new : Option (List ℕ)) (result : Result (Unit {0}) RunFault) →
    IsCutRun (IsThis n) IsNeverRejected first second old new result → IsCutRun IsOf IsRefused first second old new result
run_of IsOf IsRefused n is first second old new (Ok _) h = (h.0, text_of IsOf n is first second h.0 h.1, h.2)
run_of IsOf IsRefused n is first second old new (Err (run.CannotRead path)) h = absurd h
run_of IsOf IsRefused n is first second old new (Err (run.CannotWrite path)) h = absurd h
run_of IsOf IsRefused n is first second old new (Err (run.Tree fault)) h = absurd h.0
run_of IsOf IsRefused n is first second old new (Err (run.Net fault)) h = absurd h.0
run_of IsOf IsRefused n is first second old new (Err (run.Price fault)) h = absurd h.0
run_of IsOf IsRefused n is first second old new (Err (run.Report fault)) h = absurd h
run_of IsOf IsRefused n is first second old new (Err (run.Solve fault)) h =
    let refused = h.0 in
    ((refused.0, subst IsOf (sym refused.1) is, refused.2, refused.3, refused.4), h.1)
run_of IsOf IsRefused n is first second old new (Err (run.Rules fault)) h = absurd h
run_of IsOf IsRefused n is first second old new (Err (run.Query fault)) h = absurd h
run_of IsOf IsRefused n is first second old new (Err run.Device) h = front_of IsOf n is first second old new h
run_of IsOf IsRefused n is first second old new (Err run.Memory) (inl h) = inl h
run_of IsOf IsRefused n is first second old new (Err run.Memory) (inr h) = inr (front_of IsOf n is first second old new h)
