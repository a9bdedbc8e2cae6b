-- What a run of an engine reads and writes.
use Rattle.std.specs.Prelude.{◌≡◌, ◌⊎◌, ℕ, Bool, true, false, List, ◌++◌, Option, Result, Ok, Err, codes}
use Rattle.std.specs.Io.KnownBytes.{Appends, Keeps}
use Rattle.cut_net.specs.Network.{Network, name_of}
use Rattle.cut_net.specs.Pins.{IsCheapestAnswerWithPins}
use Rattle.cut_net.specs.NetText.{IsNetOutcome, IsErrorOf, NetError}
use Rattle.cut_report.specs.ReportClaim.{ReportClaim}
use Rattle.cut_report.specs.ReportLines.{IsReportOutcome}
use Rattle.cut_report.specs.declared.fault.ReportFault.{ReportFault}
use Rattle.byte_sink.specs.Sinks.{AppendsPrefix}
use Rattle.cut_check.specs.declared.verdict.Verdict.{Verdict}
use Rattle.cut_check.specs.declared.verdict.Verdict.TheVariants.{Yes, NoSuchImport, StillChain, WrongWeight, OverWeight, NotKept, WrongValue, NotPinned}
use Rattle.cut_check.specs.Verdicts.{IsVerdict}
use Rattle.oscip_run.specs.declared.fault.RunFault.{RunFault}
use Rattle.oscip_run.specs.declared.fault.RunFault.TheVariants.{CannotRead, CannotWrite, Tree, Net, Price, Rules, Report, Solve, Query, Device, Memory}
use Rattle.source_tree.specs.declared.source.Source.{Source}
use Rattle.source_tree.specs.TreeFaults.{is_out_of_memory}
use Rattle.source_tree.specs.Trees.{IsTreeFault}

-- the text states this network
abbrev pub IsNetOfText : List ℕ → Network → Type 0
IsNetOfText text net = IsNetOutcome text (Ok net)

-- the text of a network is rejected with this fault, which is not Memory
abbrev pub IsRejectedText : List ℕ → RunFault → Type 0
IsRejectedText text (CannotRead path) = ⊥
IsRejectedText text (CannotWrite path) = ⊥
IsRejectedText text (Tree fault) = ⊥
IsRejectedText text (Net fault) = (refusal : NetError) × IsErrorOf fault refusal × IsNetOutcome text (Err refusal)
IsRejectedText text (Price fault) = ⊥
IsRejectedText text (Report fault) = ⊥
IsRejectedText text (Solve fault) = ⊥
IsRejectedText text (Rules fault) = ⊥
IsRejectedText text (Query fault) = ⊥
IsRejectedText text Device = ⊥
IsRejectedText text Memory = ⊥

-- the tree of these files is rejected with this fault, which is not Memory
abbrev pub IsRejectedTree : List Source → RunFault → Type 0
IsRejectedTree sources (CannotRead path) = ⊥
IsRejectedTree sources (CannotWrite path) = ⊥
IsRejectedTree sources (Tree fault) = (is_out_of_memory fault ≡ false) × IsTreeFault sources fault
IsRejectedTree sources (Net fault) = ⊥
IsRejectedTree sources (Price fault) = ⊥
IsRejectedTree sources (Report fault) = ⊥
IsRejectedTree sources (Solve fault) = ⊥
IsRejectedTree sources (Rules fault) = ⊥
IsRejectedTree sources (Query fault) = ⊥
IsRejectedTree sources Device = ⊥
IsRejectedTree sources Memory = ⊥

-- the network other is the given network net
abbrev pub IsThis : Network → Network → Type 0
IsThis net other = other ≡ net

-- for an input that is never rejected: no fault is one for which it is rejected
abbrev pub IsNeverRejected : RunFault → Type 0
IsNeverRejected fault = ⊥

-- the line that a check writes for a verdict
abbrev pub verdict_text : Network → Verdict → List ℕ
verdict_text net Yes = codes "yes\n"
verdict_text net (NoSuchImport from to) = codes "no NoSuchImport " ++ name_of net from ++ codes " " ++ name_of net to ++ codes "\n"
verdict_text net StillChain = codes "no StillChain\n"
verdict_text net WrongWeight = codes "no WrongWeight\n"
verdict_text net (OverWeight from to) = codes "no OverWeight " ++ name_of net from ++ codes " " ++ name_of net to ++ codes "\n"
verdict_text net (NotKept m) = codes "no NotKept " ++ name_of net m ++ codes "\n"
verdict_text net WrongValue = codes "no WrongValue\n"
verdict_text net (NotPinned from to) = codes "no NotPinned " ++ name_of net from ++ codes " " ++ name_of net to ++ codes "\n"

-- whether the verdict is yes
abbrev pub is_yes : Verdict → Bool
is_yes Yes = true
is_yes (NoSuchImport from to) = false
is_yes StillChain = false
is_yes WrongWeight = false
is_yes (OverWeight from to) = false
is_yes (NotKept m) = false
is_yes WrongValue = false
is_yes (NotPinned from to) = false

-- Below, IsOf net states that net is the network of the input, a text or a tree, with its prices.

-- the line is that of the verdict on the report, for the input's network; agrees is whether the verdict is yes. With yes the report claims
-- a cheapest cut, or claims correctly that no cut exists
pub record IsChecked (IsOf : Network → Type 0) (report line : List ℕ) (agrees : Bool) : Type 0 where
  pub net : Network
  pub reads : IsOf net
  pub entry : ReportClaim
  pub says : IsReportOutcome net report (Ok entry)
  pub verdict : Verdict
  pub holds : IsVerdict net entry.from entry.to entry.claim verdict
  pub line_is : line ≡ verdict_text net verdict
  pub agrees_is : agrees ≡ is_yes verdict
  pub cheapest : agrees ≡ true → IsCheapestAnswerWithPins net entry.from entry.to entry.claim

-- the sink took the whole line of the check
abbrev pub WritesCheck : (Network → Type 0) → List ℕ → Option (List ℕ) → Option (List ℕ) → Bool → Type 0
WritesCheck IsOf report old new agrees = (line : List ℕ) × IsChecked IsOf report line agrees × Appends old new line

-- the sink took a prefix of the line of the check
abbrev pub WritesCheckPrefix : (Network → Type 0) → List ℕ → Option (List ℕ) → Option (List ℕ) → Type 0
WritesCheckPrefix IsOf report old new = (line : List ℕ) × (agrees : Bool) × IsChecked IsOf report line agrees × AppendsPrefix old new line

-- the input is accepted, and the report is rejected with this fault
abbrev pub IsRejectedReport : (Network → Type 0) → List ℕ → ReportFault → Type 0
IsRejectedReport IsOf report fault = (net : Network) × IsOf net × IsReportOutcome net report (Err fault)

-- a run that checks a report. Rejected input or a rejected report leaves the sink unchanged; Device or Memory leave it with at most a
-- prefix of the line
abbrev pub IsCheckRun : (Network → Type 0) → (RunFault → Type 0) → List ℕ → Option (List ℕ) → Option (List ℕ) → Result Bool RunFault → Type 0
IsCheckRun IsOf IsRefused report old new (Ok agrees) = WritesCheck IsOf report old new agrees
IsCheckRun IsOf IsRefused report old new (Err (CannotRead path)) = ⊥
IsCheckRun IsOf IsRefused report old new (Err (CannotWrite path)) = ⊥
IsCheckRun IsOf IsRefused report old new (Err (Tree fault)) = IsRefused (Tree fault) × Keeps old new
IsCheckRun IsOf IsRefused report old new (Err (Net fault)) = IsRefused (Net fault) × Keeps old new
IsCheckRun IsOf IsRefused report old new (Err (Price fault)) = IsRefused (Price fault) × Keeps old new
IsCheckRun IsOf IsRefused report old new (Err (Report fault)) = IsRejectedReport IsOf report fault × Keeps old new
IsCheckRun IsOf IsRefused report old new (Err (Solve fault)) = ⊥
IsCheckRun IsOf IsRefused report old new (Err (Rules fault)) = ⊥
IsCheckRun IsOf IsRefused report old new (Err (Query fault)) = ⊥
IsCheckRun IsOf IsRefused report old new (Err Device) = WritesCheckPrefix IsOf report old new
IsCheckRun IsOf IsRefused report old new (Err Memory) = Keeps old new ⊎ WritesCheckPrefix IsOf report old new
