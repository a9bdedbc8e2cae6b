-- The contracts of lower crates imply the definition of a run of the checker.
use Rattle.std.proofs.Common.{◌∷◌, [], append_assoc, ◌++◌, ◌≡◌, ℕ, Bool, true, List, Option, Some, None, Result, Ok, Err, refl, inl, inr, sym, subst, ◌∙◌}
use Rattle.std.specs.Io.KnownBytes.{Keeps}
use Rattle.std.proofs.lemmas.Bool.{cond_both}
use Rattle.cut_net.specs.Network.{Network}
use Rattle.cut_net.specs.Pins.{IsCheapestAnswerWithPins}
use Rattle.cut_net.specs.NetText as nets
use Rattle.cut_net.specs.declared.fault.NetFault.{NetFault}
use Rattle.cut_net.specs.declared.fault.NetFault.TheVariants as net
use Rattle.cut_net.specs.declared.price_fault.PriceFault.{PriceFault}
use Rattle.cut_report.specs.Faults as report_faults
use Rattle.cut_report.specs.ReportLines.{IsReportOutcome}
use Rattle.cut_report.specs.Reading.{entry_of}
use Rattle.byte_sink.specs.Sinks.{AppendsPrefix}
use Rattle.cut_report.specs.declared.report.Report.{Report as ReportRead}
use Rattle.cut_report.specs.declared.fault.ReportFault.{ReportFault}
use Rattle.cut_report.specs.declared.fault.ReportFault.TheVariants as report
use Rattle.byte_sink.specs.declared.sink.SinkFault.{SinkFault}
use Rattle.byte_sink.specs.declared.sink.SinkFault.TheVariants as sink
use Rattle.cut_check.specs.declared.verdict.Verdict.{Verdict}
use Rattle.cut_check.specs.declared.verdict.Verdict.TheVariants.{Yes, NoSuchImport, StillChain, WrongWeight, OverWeight, NotKept, WrongValue, NotPinned}
use Rattle.cut_check.specs.Verdicts.{IsVerdict}
use Rattle.oscip_run.specs.Faults.{of_net, of_report, of_sink, of_tree}
use Rattle.oscip_run.specs.PricedInputs.{IsRejectedOr}
use Rattle.oscip_run.specs.Runs.{IsChecked, IsCheckRun, IsNeverRejected, IsRejectedText, IsRejectedTree, IsThis, WritesCheckPrefix, is_yes, verdict_text}
use Rattle.source_tree.specs.TreeFaults.{is_out_of_memory}
use Rattle.source_tree.specs.Trees.{IsTreeFault}
use Rattle.oscip_run.specs.declared.fault.RunFault.{RunFault}
use Rattle.oscip_run.specs.declared.fault.RunFault.TheVariants as run
use Rattle.source_tree.specs.declared.source.Source.{Source}
use Rattle.source_tree.specs.declared.tree_fault.TreeFault.{TreeFault}

pub Keeps-same : (known : Option (List ℕ)) → Keeps known known
Keeps-same None = tt
Keeps-same (Some bytes) = refl

-- a refused network, in a run of any engine
pub refused_net : (IsRun : RunFault → Type 0) (text : List ℕ) → ((fault : NetFault) → IsRejectedText text (run.Net fault) → IsRun (run.Net fault)) → IsRun run.Memory →
    (fault : NetFault) → nets.UnlessMemory fault (λ refusal. nets.IsNetOutcome text (Err refusal)) → IsRun (of_net fault)
refused_net IsRun text refused memory (net.BadLine line) h = refused (net.BadLine line) (nets.BadLine line, refl, h)
refused_net IsRun text refused memory (net.TwiceImport line) h = refused (net.TwiceImport line) (nets.TwiceImport line, refl, h)
refused_net IsRun text refused memory (net.Cycle names) h = refused (net.Cycle names) (nets.Cycle _, refl, h)
refused_net IsRun text refused memory net.WeightOverflow h = refused net.WeightOverflow (nets.WeightOverflow, refl, h)
refused_net IsRun text refused memory (net.TooMany line) h = refused (net.TooMany line) (nets.TooMany line, refl, h)
refused_net IsRun text refused memory net.Memory h = memory

-- a refused tree, in a run of any engine
pub refused_tree : (IsRun : RunFault → Type 0) (sources : List Source) → ((fault : TreeFault) → IsRejectedTree sources (run.Tree fault) → IsRun (run.Tree fault)) → IsRun run.Memory →
    (fault : TreeFault) → IsTreeFault sources fault → IsRun (of_tree fault)
refused_tree IsRun sources refused memory fault h = cond_both (is_out_of_memory fault) run.Memory (run.Tree fault) IsRun (λ e. memory) (λ e. refused fault (e, h))

-- a refused report
pub refused_report : (IsOf : Network → Type 0) (IsRefused : RunFault → Type 0) (text : List ℕ) (known : Option (List ℕ)) (n : Network) → IsOf n → (fault : ReportFault) →
    report_faults.UnlessMemory fault (IsReportOutcome n text (Err fault)) → IsCheckRun IsOf IsRefused text known known (Err (of_report fault))
refused_report IsOf IsRefused text known n is (report.BadLine line) h = ((n, is, h), Keeps-same known)
refused_report IsOf IsRefused text known n is (report.UnknownName line) h = ((n, is, h), Keeps-same known)
refused_report IsOf IsRefused text known n is (report.Order line) h = ((n, is, h), Keeps-same known)
refused_report IsOf IsRefused text known n is report.NoEnd h = ((n, is, h), Keeps-same known)
refused_report IsOf IsRefused text known n is report.Device h = absurd h
refused_report IsOf IsRefused text known n is report.Memory h = inl (Keeps-same known)

yes_from : (v : Verdict) → is_yes v ≡ true → v ≡ Yes
yes_from Yes e = refl
yes_from (NoSuchImport from to) e = absurd cc
yes_from StillChain e = absurd cc
yes_from WrongWeight e = absurd cc
yes_from (OverWeight from to) e = absurd cc
yes_from (NotKept m) e = absurd cc
yes_from WrongValue e = absurd cc
yes_from (NotPinned from to) e = absurd cc

-- a verdict of what was read
pub checked : (IsOf : Network → Type 0) (report line : List ℕ) (n : Network) (r : ReportRead) (v : Verdict) (agrees : Bool) →
    IsOf n → IsReportOutcome n report (Ok (entry_of r)) →
    IsVerdict n r.from r.to (entry_of r).claim v → (v ≡ Yes → IsCheapestAnswerWithPins n r.from r.to (entry_of r).claim) →
    line ≡ verdict_text n v → agrees ≡ is_yes v → IsChecked IsOf report line agrees
checked IsOf report line n r v agrees is says holds cheapest line_is agrees_is = record {
  net = n;
  reads = is;
  entry = entry_of r;
  says = says;
  verdict = v;
  holds = holds;
  line_is = line_is;
  agrees_is = agrees_is;
  cheapest = λ e. cheapest (yes_from v (sym agrees_is ∙ e));
}

-- a sink that failed
pub error_prefix : (IsOf : Network → Type 0) (IsRefused : RunFault → Type 0) (report : List ℕ) (old new : Option (List ℕ)) (line : List ℕ) (agrees : Bool) (fault : SinkFault) →
    IsChecked IsOf report line agrees → AppendsPrefix old new line → IsCheckRun IsOf IsRefused report old new (Err (of_sink fault))
error_prefix IsOf IsRefused report old new line agrees sink.Memory is front = inr (line, agrees, is, front)
error_prefix IsOf IsRefused report old new line agrees sink.Device is front = (line, agrees, is, front)

-- a verdict on a network is one on the input that has it
checked_of : (IsOf : Network → Type 0) (n : Network) → IsOf n → (report line : List ℕ) (agrees : Bool) → IsChecked (IsThis n) report line agrees → IsChecked IsOf report line agrees
checked_of IsOf n is report line agrees c = record {
  net = c.net;
  reads = subst IsOf (sym c.reads) is;
  entry = c.entry;
  says = c.says;
  verdict = c.verdict;
  holds = c.holds;
  line_is = c.line_is;
  agrees_is = c.agrees_is;
  cheapest = c.cheapest;
}

front_of : (IsOf : Network → Type 0) (n : Network) → IsOf n → (report : List ℕ) (old new : Option (List ℕ)) → WritesCheckPrefix (IsThis n) report old new → WritesCheckPrefix IsOf report old new
front_of IsOf n is report old new h = (h.0, h.1, checked_of IsOf n is report h.0 h.1 h.2, h.3)

-- and so is a run
pub run_of : (IsOf : Network → Type 0) (IsRefused : RunFault → Type 0) (n : Network) → IsOf n → (report : List ℕ) (old new : Option (List ℕ)) (result : Result Bool RunFault) →
    IsCheckRun (IsThis n) IsNeverRejected report old new result → IsCheckRun IsOf IsRefused report old new result
run_of IsOf IsRefused n is report old new (Ok agrees) h = (h.0, checked_of IsOf n is report h.0 agrees h.1, h.2)
run_of IsOf IsRefused n is report old new (Err (run.CannotRead path)) h = absurd h
run_of IsOf IsRefused n is report old new (Err (run.CannotWrite path)) h = absurd h
run_of IsOf IsRefused n is report old new (Err (run.Tree fault)) h = absurd h.0
run_of IsOf IsRefused n is report old new (Err (run.Net fault)) h = absurd h.0
run_of IsOf IsRefused n is report old new (Err (run.Price fault)) h = absurd h.0
run_of IsOf IsRefused n is report old new (Err (run.Report fault)) h =
    let refused = h.0 in
    ((refused.0, subst IsOf (sym refused.1) is, refused.2), h.1)
run_of IsOf IsRefused n is report old new (Err (run.Solve fault)) h = absurd h
run_of IsOf IsRefused n is report old new (Err (run.Rules fault)) h = absurd h
run_of IsOf IsRefused n is report old new (Err (run.Query fault)) h = absurd h
run_of IsOf IsRefused n is report old new (Err run.Device) h = front_of IsOf n is report old new h
run_of IsOf IsRefused n is report old new (Err run.Memory) (inl h) = inl h
run_of IsOf IsRefused n is report old new (Err run.Memory) (inr h) = inr (front_of IsOf n is report old new h)

-- no network, in a run of any engine
pub no_run : (IsRun IsRefused : RunFault → Type 0) (known : Option (List ℕ)) → ((fault : TreeFault) → IsRefused (run.Tree fault) × Keeps known known → IsRun (run.Tree fault)) →
    ((fault : NetFault) → IsRefused (run.Net fault) × Keeps known known → IsRun (run.Net fault)) → ((fault : PriceFault) → IsRefused (run.Price fault) × Keeps known known → IsRun (run.Price fault)) →
    (Keeps known known → IsRun run.Memory) → (fault : RunFault) → IsRejectedOr IsRefused fault → IsRun fault
no_run IsRun IsRefused known tree net price memory (run.CannotRead path) h = absurd h
no_run IsRun IsRefused known tree net price memory (run.CannotWrite path) h = absurd h
no_run IsRun IsRefused known tree net price memory (run.Tree fault) h = tree fault (h, Keeps-same known)
no_run IsRun IsRefused known tree net price memory (run.Net fault) h = net fault (h, Keeps-same known)
no_run IsRun IsRefused known tree net price memory (run.Price fault) h = price fault (h, Keeps-same known)
no_run IsRun IsRefused known tree net price memory (run.Report fault) h = absurd h
no_run IsRun IsRefused known tree net price memory (run.Solve fault) h = absurd h
no_run IsRun IsRefused known tree net price memory (run.Rules fault) h = absurd h
no_run IsRun IsRefused known tree net price memory (run.Query fault) h = absurd h
no_run IsRun IsRefused known tree net price memory run.Device h = absurd h
no_run IsRun IsRefused known tree net price memory run.Memory h = memory (Keeps-same known)

-- and in one of the check
pub no_net : (IsOf : Network → Type 0) (IsRefused : RunFault → Type 0) (report : List ℕ) (known : Option (List ℕ)) (fault : RunFault) → IsRejectedOr IsRefused fault →
    IsCheckRun IsOf IsRefused report known known (Err fault)
no_net IsOf IsRefused report known = no_run (λ fault. IsCheckRun IsOf IsRefused report known known (Err fault)) IsRefused known (λ fault h. h) (λ fault h. h) (λ fault h. h) (λ h. inl h)

-- a line of two names
pub two_names : (cause word from to a b ending : List ℕ) → from ≡ a → to ≡ b → cause ++ (word ++ (32 ∷ (from ++ (32 ∷ (to ++ ending))))) ≡ cause ++ word ++ (32 ∷ []) ++ a ++ (32 ∷ []) ++ b ++ ending
two_names cause word from to a b ending e f = rw (e, f) (simp append_assoc)
