-- What a run of a question about the modules of a tree reads and writes. Answers holds for the readings that the reader may return.
use Rattle.std.specs.Prelude.{◌≡◌, ◌⊎◌, ℕ, Bool, true, List, Option, Result, IfOk}
use Rattle.std.specs.String.{string_bytes}
use Rattle.oscip_job.specs.declared.job.TreeQuestion.{TreeQuestion}
use Rattle.oscip_job.specs.declared.job.TreeQuestion.TheVariants.{OfNet, Crossings, Net, Rules, Faults, Modules}
use Rattle.oscip_run.specs.CrossingRuns.{IsCrossingsRun}
use Rattle.oscip_run.specs.FaultRuns.{IsFaultsRun}
use Rattle.oscip_run.specs.FileRuns.{IsTreeNetRun, IsUnread}
use Rattle.oscip_run.specs.ImportRuns.{IsNetTextRun}
use Rattle.oscip_run.specs.JobRuns.{without_boolean}
use Rattle.oscip_run.specs.ModuleRuns.{IsModulesRun}
use Rattle.oscip_run.specs.Readings.{FileOf, Reading, Refused}
use Rattle.oscip_run.specs.RuleRuns.{IsRuledTree, IsRulesRun}
use Rattle.oscip_run.specs.Runs.{IsRejectedTree}
use Rattle.oscip_run.specs.declared.fault.RunFault.{RunFault}
use Rattle.source_tree.specs.Trees.{IsNetOfTree}
use Rattle.source_tree.specs.declared.source.Source.{Source}
use Rattle.texts.specs.Places.{Style}

-- the run never returns false
abbrev pub IsNeverFalse : Result Bool RunFault → Type 0
IsNeverFalse result = IfOk result (λ agrees. agrees ≡ true)

-- a run on the rules in the file of this path: the file can't be read, or the modules are checked against the rules that the reader
-- returned
abbrev pub IsRulesFileRun : (Reading → Type 0) → Style → List Source → List ℕ → Option (List ℕ) → Option (List ℕ) → Result Bool RunFault → Type 0
IsRulesFileRun Answers style sources path old new result =
    IsUnread (λ fault. Answers (Refused path fault)) old new result
    ⊎ ((text : List ℕ) × Answers (FileOf path text) × IsRulesRun (IsRuledTree sources) (IsRejectedTree sources) style text old new result)

-- a run of a question about these modules, with locations in this style
abbrev pub IsTreeQuestionRun : (Reading → Type 0) → Style → List Source → TreeQuestion → Option (List ℕ) → Option (List ℕ) → Result Bool RunFault → Type 0
IsTreeQuestionRun Answers style sources (OfNet question) old new result = IsTreeNetRun Answers sources question old new result
IsTreeQuestionRun Answers style sources (Crossings names) old new result =
    IsCrossingsRun style sources (string_bytes names.from) (string_bytes names.to) old new (without_boolean result) × IsNeverFalse result
IsTreeQuestionRun Answers style sources Net old new result = IsNetTextRun (IsNetOfTree sources) (IsRejectedTree sources) old new (without_boolean result) × IsNeverFalse result
IsTreeQuestionRun Answers style sources (Rules path) old new result = IsRulesFileRun Answers style sources (string_bytes path) old new result
IsTreeQuestionRun Answers style sources Faults old new result = IsFaultsRun style sources old new result
IsTreeQuestionRun Answers style sources Modules old new result = IsModulesRun style sources old new (without_boolean result) × IsNeverFalse result
